-- A Maildir on a file system: its files, the clock, and when each folder was last changed.
use Rattle.std.specs.Prelude.{◌≡◌, ◌⊎◌, ℕ, ◌+◌, ◌%◌, ◌≤◌, ◌<◌, ◌==◌, List, if◌then◌else◌, IsPermutation}
use Rattle.std.specs.FinMap.{empty, keys}
use Rattle.maildir_run.specs.declared.folder.Sub.{Sub}
use Rattle.maildir_run.specs.Files.{Files, Action, all_acted, Spared}
use Rattle.maildir_run.specs.Calls.{folder_of}

-- one moment of the system; times are nanoseconds since 1970
pub record World : Type 0 where
  pub files : Files
  -- the wall clock
  pub time : ℕ
  -- when each of the three folders was last changed
  pub stamp_of : Sub → ℕ

-- no files, at no time
abbrev pub no_world : World
no_world = record { files = record { tmp = empty; new = empty; cur = empty }; time = 0; stamp_of = λ _. 0 }

-- How far a stamp may be from the clock at the change that set it. A kernel stamps by a clock that ticks every 10 ms or faster,
-- and may be some ticks late; if the stamp has no fraction of a second, the file system may keep whole seconds, or even seconds
-- only (FAT).
abbrev pub margin_of : ℕ → ℕ
margin_of stamp = if stamp % 1_000_000_000 == 0 then 2_050_000_000 else 50_000_000

-- A change between these two times may have set this stamp: the clock was then less than the margin away from it.
pub record IsOfChange (start end stamp : ℕ) : Type 0 where
  pub time : ℕ
  pub no_earlier : start ≤ time
  pub no_later : time ≤ end
  pub less_after : time < stamp + margin_of stamp
  pub less_ahead : stamp < time + margin_of stamp

-- Other programs may have acted.
pub record Acts (spared : Spared) (old new : World) : Type 0 where
  pub actions : List Action
  pub files_are : new.files ≡ all_acted spared actions old.files

-- Other programs may have acted while the folder was watched: the clock did not go back, and the folder has the
-- stamp that it had, or that of a change meanwhile.
pub record Passes (spared : Spared) (sub : Sub) (old new : World) : Type 0 where
  pub acts : Acts spared old new
  pub later : old.time ≤ new.time
  pub stamp_is : (new.stamp_of sub ≡ old.stamp_of sub) ⊎ IsOfChange old.time new.time (new.stamp_of sub)

-- The stamp of the folder at some moment of a call.
pub record IsStampWithin (spared : Spared) (sub : Sub) (old : World) (stamp : ℕ) (new : World) : Type 0 where
  pub moment : World
  pub before : Passes spared sub old moment
  pub rest : Passes spared sub moment new
  pub is : stamp ≡ moment.stamp_of sub

-- The time at some moment of a call.
pub record IsTimeOf (old : World) (time : ℕ) (new : World) : Type 0 where
  pub no_earlier : old.time ≤ time
  pub no_later : time ≤ new.time

-- These are the folder's names, or this stamp is that of a change meanwhile.
abbrev pub AreUnless : Sub → World → List (List ℕ) → ℕ → ℕ → Type 0
AreUnless sub old names end stamp = IsPermutation names (keys (folder_of sub old.files)) ⊎ IsOfChange old.time end stamp

-- The names that readdir(3) returned, in several steps: each of the folder's names once if nothing in it changed meanwhile. If something
-- changed they may be any names, and then the folder has the stamp of a change meanwhile.
abbrev pub ReadsNames : Sub → World → List (List ℕ) → World → Type 0
ReadsNames sub old names new = AreUnless sub old names new.time (new.stamp_of sub)
