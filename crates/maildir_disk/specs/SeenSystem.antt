-- What is seen of a system at one moment, and what its calls do to that.
use Rattle.std.specs.Prelude.{ℕ, List, [], IfOk, OnOk, Result}
use Rattle.std.specs.Time.{system_time_nanos}
use Rattle.std.specs.declared.alloc.Global.{Global}
use Rattle.std.specs.declared.io.Error.{Error}
use Rattle.std.specs.declared.string.String.{String}
use Rattle.std.specs.declared.time.SystemTime.{SystemTime}
use Rattle.std.specs.declared.vec.Vec.{Vec}
use Rattle.maildir_run.specs.declared.folder.Sub.{Sub}
use Rattle.maildir_run.specs.Calls.{Call, Called, CalledQuietly, Writing, names_of}
use Rattle.maildir_run.specs.Cuts.{Follows, Leaves}
use Rattle.maildir_run.specs.Files.{Files, Honestly, Spared}
use Rattle.maildir_run.specs.Touched.{FileName, Logs, TouchedNone, TouchedOnly, Touches}
use Rattle.maildir_disk.specs.PowerCuts.{LeftByOthers}
use Rattle.maildir_disk.specs.Quiet.{AppendedQuietly, AreNames, SameFiles}
use Rattle.maildir_disk.specs.World.{World, Acts, Passes, IsStampWithin, IsTimeOf, ReadsNames, no_world}
use Rattle.maildir_disk.specs.Writing.{Appended, Created}

-- what is seen of a system at one moment
pub record SeenSystem : Type 1 where
  -- its calls do what their contracts say, and to the files of these bases other programs do only what mail readers do
  pub honest : Spared → Type 0
  -- Its calls do what their contracts say, no other program acts, and each call has its own effect alone: once if it
  -- answers Ok, and any number of times, or none, if it answers an error.
  pub quiet : Type 0
  -- the files, the clock and the stamps
  pub world : World
  -- What a power cut may leave, now or later, of what has happened until now; what the system does by itself later adds
  -- nothing to it. In `new` and `cur` it is the files that are found then, and of `tmp` what each file that is there now
  -- would be found to hold, wherever it is found.
  pub may_leave : Files → Type 0
  -- a power cut leaves the Maildir and its three folders
  pub rooted : Type 0
  -- The files that its calls may have touched until now: those that they made or emptied, so that they may be written, moved or
  -- removed. What other programs do does not count.
  pub touched : FileName → Type 0

-- of a system of which nothing is known
abbrev pub no_system : SeenSystem
no_system = record { honest = λ _. ⊥; quiet = ⊥; world = no_world; may_leave = λ _. ⊥; rooted = ⊥; touched = λ _. Unit {0} }

-- The system was looked at: only other programs acted.
pub record Looks (old new : SeenSystem) : Type 0 where
  pub honest : Honestly old.honest new.honest
  pub acts : Honestly old.honest (λ spared. Acts spared old.world new.world)
  pub left : Honestly old.honest (λ spared. Follows (LeftByOthers spared) old.may_leave new.may_leave)
  pub still_rooted : Honestly old.honest (λ _. old.rooted → new.rooted)
  pub touches : TouchedNone old.touched new.touched
  pub quiet : old.quiet → new.quiet
  pub quietly : old.quiet → SameFiles old.world new.world

-- The system was asked to keep names: only other programs acted, whatever the answer is. After an error nothing is assumed of the calls that follow:
-- Linux reports a writeback error once, and a later fsync may return Ok though the data is lost.
pub record Asks {A E : Type 0} (old : SeenSystem) (result : Result A E) (new : SeenSystem) : Type 0 where
  pub honest : Honestly old.honest (λ spared. OnOk result (new.honest spared))
  pub acts : Honestly old.honest (λ spared. Acts spared old.world new.world)
  pub left : Honestly old.honest (λ spared. Follows (LeftByOthers spared) old.may_leave new.may_leave)
  pub still_rooted : Honestly old.honest (λ _. old.rooted → new.rooted)
  pub touches : TouchedNone old.touched new.touched
  pub quiet : old.quiet → OnOk result new.quiet
  pub quietly : old.quiet → SameFiles old.world new.world

-- The names of a folder were read, in several steps.
pub record ReadsFolder {E : Type 0} (sub : Sub) (old : SeenSystem) (result : Result (Vec (String Global) Global) E) (new : SeenSystem) : Type 0 where
  pub looks : Looks old new
  pub passes : Honestly old.honest (λ spared. Passes spared sub old.world new.world)
  pub names : Honestly old.honest (λ _. IfOk result (λ names. ReadsNames sub old.world (names_of names) new.world))
  pub exact : old.quiet → IfOk result (AreNames sub old.world.files)

-- The stamp of a folder was read.
pub record ReadsStamp {E : Type 0} (sub : Sub) (old : SeenSystem) (result : Result SystemTime E) (new : SeenSystem) : Type 0 where
  pub looks : Looks old new
  pub passes : Honestly old.honest (λ spared. Passes spared sub old.world new.world)
  pub stamp : Honestly old.honest (λ spared. IfOk result (λ stamp. IsStampWithin spared sub old.world (system_time_nanos stamp) new.world))

-- The wall clock was read.
pub record ReadsClock {E : Type 0} (old : SeenSystem) (result : Result SystemTime E) (new : SeenSystem) : Type 0 where
  pub looks : Looks old new
  pub now : Honestly old.honest (λ _. IfOk result (λ now. IsTimeOf old.world (system_time_nanos now) new.world))

-- A file of `tmp` was made, or emptied if it was there.
pub record MakesFile {A E : Type 0} (name : List ℕ) (old : SeenSystem) (result : Result A E) (new : SeenSystem) : Type 0 where
  pub honest : Honestly old.honest new.honest
  pub created : Honestly old.honest (λ spared. Created spared name old.world result new.world)
  pub left : Honestly old.honest (λ spared. Follows (Leaves spared (Writing name [])) old.may_leave new.may_leave)
  pub still_rooted : Honestly old.honest (λ _. old.rooted → new.rooted)
  pub logs : Honestly old.honest (λ spared. Logs spared (Writing name []) old.world.files result new.world.files new.touched)
  pub touches : TouchedOnly (Touches (Writing name [])) old.touched new.touched
  pub quiet : old.quiet → new.quiet
  pub quietly : old.quiet → CalledQuietly (Writing name []) old.world.files result new.world.files

-- A prefix of the bytes was appended to the file that was opened under this name, if none was made under it since then.
pub record AppendsToFile (name : List ℕ) (is_current : Type 0) (bytes : List ℕ) (old : SeenSystem) (result : Result ℕ Error) (new : SeenSystem) : Type 0 where
  pub honest : Honestly old.honest new.honest
  pub appended : Honestly old.honest (λ spared. is_current → Appended spared name bytes old.world result new.world)
  pub left : Honestly old.honest (λ spared. Follows (Leaves spared (Writing name [])) old.may_leave new.may_leave)
  pub still_rooted : Honestly old.honest (λ _. old.rooted → new.rooted)
  pub touches : TouchedNone old.touched new.touched
  pub quiet : old.quiet → new.quiet
  pub quietly : old.quiet → is_current → AppendedQuietly name bytes old.world.files result new.world.files

-- A file of `tmp` was moved or removed.
pub record TakesFromTmp {A E : Type 0} (call : Call) (old : SeenSystem) (result : Result A E) (new : SeenSystem) : Type 0 where
  pub honest : Honestly old.honest new.honest
  pub called : Honestly old.honest (λ spared. Called spared call old.world.files result new.world.files)
  pub left : Honestly old.honest (λ spared. Follows (Leaves spared call) old.may_leave new.may_leave)
  pub still_rooted : Honestly old.honest (λ _. old.rooted → new.rooted)
  pub logs : Honestly old.honest (λ spared. Logs spared call old.world.files result new.world.files new.touched)
  pub touches : TouchedOnly (Touches call) old.touched new.touched
  pub quiet : old.quiet → new.quiet
  pub quietly : old.quiet → CalledQuietly call old.world.files result new.world.files
