use Rattle.std.proofs.Common.{ap, sym, ◌∙◌}
use Rattle.std.specs.FinMap.{get}
use Rattle.maildir_run.specs.Files.{Files}
use Rattle.maildir_memory.specs.Plain.{opened_as}
use Rattle.maildir_memory.proofs.Plain.{files, only_left, synced}
use Rattle.maildir_memory.proofs.plain_system.PlainSystemSystem.sync_file.Goals as goal

pub returns-clause-looks : goal.returns-clause-looks
returns-clause-looks c =
    let old = c.args.self.now in synced old c.sync.new.self old.is_rooted c.sync.ensures (λ rooted. rooted)

pub returns-clause-kept : goal.returns-clause-kept
returns-clause-kept c = λ spared h current left may known.
    let old = c.args.self.now in
    let same = only_left old c.sync.new.self old.is_rooted c.sync.ensures left may ∙ sym (files old c.sync.new.self old.is_rooted c.sync.ensures) in
    ap (λ (s : Files). get s.tmp (opened_as c.args._file.now)) same
