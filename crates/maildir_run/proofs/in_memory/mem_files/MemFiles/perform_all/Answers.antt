use Rattle.std.proofs.Common.{ap, ◌∙◌, arith}
use Rattle.maildir_run.proofs.Common.{files_in, performed}
use Rattle.maildir_run.proofs.Memory.Scripts.{on_err, one_more, cut_at}
use Rattle.maildir_run.proofs.in_memory.mem_files.MemFiles.perform_all.Goals as goal

pub returns-in_err-perform-clause-err : goal.returns-in_err-perform-clause-err
returns-in_err-perform-clause-err c = grind (arith, on_err, cut_at)

pub loop-act-preserved : goal.loop-act-preserved
loop-act-preserved c =
    one_more c.args.acts.now c.loop-act.act-index c.act-item.result (files_in c.args.self.now)
    (files_in c.loop-act.self) (files_in c.perform.new.self) c.loop-act-test.true c.loop-act.invariant
    (c.in_ok-perform.ensures.ok ∙ ap (λ act. performed act (files_in c.loop-act.self)) c.act-item.is)
