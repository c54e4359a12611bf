use Rattle.std.proofs.Common.{◌≡◌, Ok, IfOk, IsErr, OnErr, rules}
use Rattle.maildir_disk.proofs.Common.{Placing}
use Rattle.maildir_disk.proofs.Calls.Answered.{answered}
use Rattle.maildir_disk.proofs.Calls.Refused.{failed_answered}
use Rattle.maildir_disk.proofs.disk_folder.DiskFolderFolder.place.Goals as goal

pub returns-clause-places : goal.returns-clause-places
returns-clause-places g c =
    let ok : IfOk c.rename.result (λ value. c.match-rename.answer ≡ Ok value) = search rules in
    let err : OnErr c.rename.result (IsErr c.match-rename.answer) = search rules in
    answered g.S.System (Placing c.args.name.now c.args.place c.args.target.now) c.args.self.now c.rename.new.self c.count_call.new.self c.rename.result
    c.rename.ensures.did c.rename.ensures.counts c.count_call.ensures ok err tt

pub returns-clause-failed : goal.returns-clause-failed
returns-clause-failed g c =
    let err : OnErr c.rename.result (IsErr c.match-rename.answer) = search rules in
    failed_answered c.rename.result c.rename.ensures.failed err c.count_call.ensures
