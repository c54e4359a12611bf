-- Why a listing cannot wait less than it does.
use Rattle.std.specs.Prelude.{◌≡◌, ℕ, [], IsPermutation}
use Rattle.std.specs.FinMap.{keys}
use Rattle.maildir_run.specs.declared.folder.Sub.TheVariants.{New}
use Rattle.maildir_run.specs.Calls.{folder_of}
use Rattle.maildir_disk.specs.World.{World, Passes, ReadsNames}
use Rattle.maildir_run.specs.Files.{all_bases}

-- A listing that lasts from one time to another, with this stamp of the folder before and after it, finds no name though a file is
-- there; the assumptions about a system allow it.
pub record Misread (now later stamp : ℕ) : Type 0 where
  pub old : World
  pub new : World
  pub begins : old.time ≡ now
  pub ends : new.time ≡ later
  pub stamped : old.stamp_of New ≡ stamp
  pub same : new.stamp_of New ≡ stamp
  pub passes : Passes all_bases New old new
  pub reads : ReadsNames New old [] new
  pub missed : ¬ IsPermutation [] (keys (folder_of New old.files))
