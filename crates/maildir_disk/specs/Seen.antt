-- What is seen of a Maildir on a file system, and what a sync of it does.
use Rattle.std.specs.Prelude.{◌≡◌, IsErr, IsFalse, IsTrue, OnOk, Result}
use Rattle.maildir_run.specs.Cuts.{Follows}
use Rattle.maildir_run.specs.Files.{Honestly}
use Rattle.maildir_run.specs.Seen.{Seen}
use Rattle.maildir_run.specs.Touched.{TouchedNone}
use Rattle.maildir_disk.specs.declared.disk_folder.DiskFolder.{DiskFolder}
use Rattle.maildir_disk.specs.declared.system.System.{Ghosts}
use Rattle.maildir_disk.specs.PowerCuts.{LeftByOthers, Syncs}
use Rattle.maildir_disk.specs.Quiet.{SameFiles}
use Rattle.maildir_disk.specs.SeenSystem.{SeenSystem}
use Rattle.maildir_disk.specs.World.{Acts}

-- what is seen of its system as the folder uses it: it makes no call after a sync of a folder failed, and from then on nothing is assumed
abbrev pub system_of : {S File : Type 0} → Ghosts S File → DiskFolder S → SeenSystem
system_of f folder = record {
  honest = λ spared. IsFalse folder.sync_failed → (f.at folder.system).honest spared;
  quiet = IsFalse folder.sync_failed → (f.at folder.system).quiet;
  world = (f.at folder.system).world;
  may_leave = (f.at folder.system).may_leave;
  rooted = (f.at folder.system).rooted;
  touched = (f.at folder.system).touched;
}

-- what is seen of it, as of any folder: it takes effect as reported if the system does as assumed until a sync fails
abbrev pub seen_of : {S File : Type 0} → Ghosts S File → DiskFolder S → Seen
seen_of f folder = record {
  honest = (system_of f folder).honest;
  quiet = (system_of f folder).quiet;
  files = (f.at folder.system).world.files;
  may_leave = (f.at folder.system).may_leave;
  rooted = (f.at folder.system).rooted;
  touched = (f.at folder.system).touched;
  calls = folder.calls;
  failures = folder.failures;
}

-- If a sync of a folder had failed before this call, the call answers a fault and leaves the system as it is, and so does each call after it.
pub record StaysFailed {S A E : Type 0} (old : DiskFolder S) (result : Result A E) (new : DiskFolder S) : Type 0 where
  pub refused : IsTrue old.sync_failed → IsErr result
  pub system : IsTrue old.sync_failed → new.system ≡ old.system
  pub still : IsTrue old.sync_failed → IsTrue new.sync_failed

-- The system was asked to keep what `new`, `cur`, the Maildir and its parent name, and answered this.
pub record SyncsMaildir {A E : Type 0} (old : SeenSystem) (result : Result A E) (new : SeenSystem) : Type 0 where
  -- if the system is honest
  pub honest : Honestly old.honest new.honest
  pub acts : Honestly old.honest (λ spared. Acts spared old.world new.world)
  pub left : Honestly old.honest (λ spared. Follows (LeftByOthers spared) old.may_leave new.may_leave)
  pub rooted : Honestly old.honest (λ _. OnOk result new.rooted)
  pub still_rooted : Honestly old.honest (λ _. old.rooted → new.rooted)
  pub synced : Honestly old.honest (λ spared.
      OnOk result (Follows (λ before left. Syncs spared old.world.files before new.world.files left) old.may_leave new.may_leave))
  -- whatever the system does
  pub touches : TouchedNone old.touched new.touched
  -- if no other program acts
  pub quiet : old.quiet → new.quiet
  pub quietly : old.quiet → SameFiles old.world new.world
