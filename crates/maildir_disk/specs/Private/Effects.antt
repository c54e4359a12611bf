-- What the system calls of one call of the folder do, and that the folder counts them as one.
use Rattle.std.specs.Prelude.{◌≡◌, Result}
use Rattle.maildir_run.specs.Calls.{Call, Called, CalledQuietly, CountsFailure, GoesUp}
use Rattle.maildir_run.specs.Cuts.{Follows, LeavesOf}
use Rattle.maildir_run.specs.Touched.{Logs, TouchedOnly, Touches}
use Rattle.maildir_run.specs.declared.folder.FolderFault.{FolderFault}
use Rattle.maildir_disk.specs.declared.disk_folder.DiskFolder.{DiskFolder}
use Rattle.maildir_disk.specs.SeenSystem.{SeenSystem}
use Rattle.maildir_run.specs.Files.{Honestly}

-- System calls that answered this have the effect of a call of the folder.
pub record TakesEffect {A E : Type 0} (call : Call) (old : SeenSystem) (result : Result A E) (new : SeenSystem) : Type 0 where
  pub honest : Honestly old.honest new.honest
  pub called : Honestly old.honest (λ spared. Called spared call old.world.files result new.world.files)
  pub left : Honestly old.honest (λ spared. Follows (λ before now. LeavesOf spared call before result now) old.may_leave new.may_leave)
  pub still_rooted : Honestly old.honest (λ _. old.rooted → new.rooted)
  pub logs : Honestly old.honest (λ spared. Logs spared call old.world.files result new.world.files new.touched)
  pub touches : TouchedOnly (Touches call) old.touched new.touched
  pub quiet : old.quiet → new.quiet
  pub quietly : old.quiet → CalledQuietly call old.world.files result new.world.files

-- The folder counted one call with this answer, and returned the answer.
pub record Counts {S A : Type 0} (answer : Result A FolderFault) (old : DiskFolder S) (result : Result A FolderFault) (new : DiskFolder S) : Type 0 where
  pub same : result ≡ answer
  pub system : new.system ≡ old.system
  pub sync_failed : new.sync_failed ≡ old.sync_failed
  pub calls : GoesUp old.calls new.calls
  pub failures : CountsFailure answer old.failures new.failures

-- The folder's counts of calls are as they were.
pub record SameCounts {S : Type 0} (old new : DiskFolder S) : Type 0 where
  pub calls : new.calls ≡ old.calls
  pub failures : new.failures ≡ old.failures
