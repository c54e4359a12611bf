use Rattle.maildir_disk.proofs.Common.{Writing}
use Rattle.maildir_disk.proofs.Calls.Syncing.{lifted, not_called}
use Rattle.maildir_disk.proofs.disk_folder.DiskFolder.write_file.Goals as goal

pub returns-in_err-may_call-clause-did : goal.returns-in_err-may_call-clause-did
returns-in_err-may_call-clause-did g c = not_called g.S.System c.args.self.now (Writing c.args.name.now c.args.bytes.now) _ c.from_residual.ensures.0

pub returns-clause-did : goal.returns-clause-did
returns-clause-did g c = lifted g.S.System c.args.self.now c.in_ok-may_call.ensures.none_failed c.write_synced.ensures
