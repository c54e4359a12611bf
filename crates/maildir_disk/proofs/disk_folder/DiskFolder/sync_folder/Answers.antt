use Rattle.maildir_disk.proofs.Calls.Syncing.{asked}
use Rattle.maildir_disk.proofs.disk_folder.DiskFolder.sync_folder.Goals as goal

pub returns-clause-looks : goal.returns-clause-looks
returns-clause-looks g c =
    rw c.remember.ensures.failed (asked g.S.System c.args.self.now c.requires c.sync_folder-outcome.result c.sync_folder-outcome.ensures.asks)

pub returns-clause-names : goal.returns-clause-names
returns-clause-names g c = λ spared h.
    rw (c.remember.ensures.failed, c.remember.ensures.same) (c.sync_folder-outcome.ensures.names spared (h c.requires))
