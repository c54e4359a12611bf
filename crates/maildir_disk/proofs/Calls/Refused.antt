-- Calls that failed.
use Rattle.std.proofs.Common.{◌∙◌, refl, Result, Ok, Err, IsErr, IsFalse, OnErr}
use Rattle.std.proofs.lemmas.Bool.{false≢true}
use Rattle.maildir_run.specs.declared.folder.FolderFault.{FolderFault}
use Rattle.maildir_disk.specs.declared.disk_folder.DiskFolder.{DiskFolder}
use Rattle.maildir_disk.specs.Private.Effects.{Counts}
use Rattle.maildir_disk.specs.Seen.{StaysFailed, SyncsMaildir}
use Rattle.maildir_disk.specs.SeenSystem.{Looks, SeenSystem}

-- a sync that failed
pub sync_failed : {A E : Type 0} {old new : SeenSystem} (result : Result A E) → IsErr result → Looks old new → SyncsMaildir old result new
sync_failed (Ok x) is looks = absurd (false≢true is)
sync_failed (Err e) is looks = record {
  honest = looks.honest;
  acts = looks.acts;
  left = looks.left;
  rooted = λ spared h. tt;
  still_rooted = looks.still_rooted;
  touches = looks.touches;
  synced = λ spared h. tt;
  quiet = looks.quiet;
  quietly = looks.quietly;
}

-- ---- a call after a sync that failed

-- nothing is called
pub failed_still : {S A E : Type 0} {folder : DiskFolder S} (result : Result A E) → IsErr result → StaysFailed folder result folder
failed_still result is = record { refused = λ f. is; system = λ f. refl; still = λ f. f }

-- none had failed
pub none_had_failed : {S A E : Type 0} {old new : DiskFolder S} {result : Result A E} → IsFalse old.sync_failed → StaysFailed old result new
none_had_failed none = record { refused = λ f. cc; system = λ f. cc; still = λ f. cc }

pub ruleset failed_rules = (failed_still, none_had_failed)

err_answered : {A E F : Type 0} (outcome : Result A E) (answer : Result A F) → OnErr outcome (IsErr answer) → IsErr outcome → IsErr answer
err_answered (Ok x) answer err is = absurd (false≢true is)
err_answered (Err e) answer err is = err

-- the folder counted the call and returned this answer
pub failed_answered : {S A E : Type 0} {old before new : DiskFolder S} (outcome : Result A E) {answer result : Result A FolderFault}
    → StaysFailed old outcome before → OnErr outcome (IsErr answer) → Counts answer before result new → StaysFailed old result new
failed_answered outcome {answer} was err counts = rw counts.same (record {
  refused = λ f. err_answered outcome answer err (was.refused f);
  system = λ f. counts.system ∙ was.system f;
  still = λ f. counts.sync_failed ∙ was.still f;
})
