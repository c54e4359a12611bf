use Rattle.maildir_disk.proofs.Kept.Syncs.{synced_bodies}
use Rattle.maildir_disk.proofs.cuts.kept_by_a_sync.Goals as goal

pub returns : goal.returns
returns c = λ spared ms old before new left named home intact syncs. synced_bodies ms named home intact syncs
