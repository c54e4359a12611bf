use Rattle.std.proofs.Common.{refl, sym, ◌∙◌}
use Rattle.maildir_run.proofs.Common.{files_in}
use Rattle.maildir_run.proofs.Memory.Scripts.{unlinked}
use Rattle.maildir_run.proofs.in_memory.mem_files.MemFiles.move_to_cur.Goals as goal

pub returns-then-branch-clause-reflag : goal.returns-then-branch-clause-reflag
returns-then-branch-clause-reflag c is =
    rw is at c.remove.ensures
    ∙ unlinked (files_in c.args.self.now) _ _ _
    refl (sym (rw is at c.in_ok-link.ensures.may) ∙ c.if-branch.true) (rw is at c.in_ok-link.ensures.ok)
