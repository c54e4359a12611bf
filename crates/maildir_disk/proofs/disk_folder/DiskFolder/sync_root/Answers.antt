use Rattle.maildir_disk.proofs.Calls.Syncing.{asked}
use Rattle.maildir_disk.proofs.disk_folder.DiskFolder.sync_root.Goals as goal

pub returns-clause-looks : goal.returns-clause-looks
returns-clause-looks g c =
    rw c.remember.ensures.failed (asked g.S.System c.args.self.now c.requires c.sync_root-outcome.result c.sync_root-outcome.ensures.asks)
