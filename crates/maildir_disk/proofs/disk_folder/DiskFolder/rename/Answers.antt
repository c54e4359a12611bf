use Rattle.maildir_disk.proofs.Common.{Placing}
use Rattle.maildir_disk.proofs.Calls.Answered.{taken}
use Rattle.maildir_disk.proofs.Calls.Syncing.{lifted, not_called}
use Rattle.maildir_disk.proofs.disk_folder.DiskFolder.rename.Goals as goal

pub returns-in_err-may_call-clause-did : goal.returns-in_err-may_call-clause-did
returns-in_err-may_call-clause-did g c =
    not_called g.S.System c.args.self.now (Placing c.args.name.now c.args.place c.args.target.now) _ c.from_residual.ensures.0

pub returns-clause-did : goal.returns-clause-did
returns-clause-did g c = lifted g.S.System c.args.self.now c.in_ok-may_call.ensures.none_failed (taken _ (λ spared s. tt) c.rename.ensures.places)
