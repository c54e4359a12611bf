-- What one attempt at a listing returns.
use Rattle.std.specs.Prelude.{◌≡◌, ℕ, ◌+◌, ◌<◌, List, Result, Ok, Err, IfOk, Option, Some, None}
use Rattle.std.specs.declared.vec.Vec.{Vec}
use Rattle.std.specs.declared.string.String.{String}
use Rattle.std.specs.declared.alloc.Global.{Global}
use Rattle.std.specs.Duration.{as_nanos}
use Rattle.maildir_run.specs.declared.folder.Sub.{Sub}
use Rattle.maildir_run.specs.Calls.{Listed, Lists, names_of}
use Rattle.maildir_run.specs.Cuts.{Follows, LeavesListed}
use Rattle.maildir_run.specs.Files.{Files, Honestly, Spared}
use Rattle.maildir_disk.specs.declared.one_moment.Age.{Age}
use Rattle.maildir_disk.specs.declared.one_moment.Age.TheVariants.{Settled, Young, Ahead}
use Rattle.maildir_disk.specs.declared.one_moment.Attempt.{Attempt}
use Rattle.maildir_disk.specs.declared.one_moment.Attempt.TheVariants.{Taken, Wait}
use Rattle.maildir_disk.specs.World.{World, Acts, AreUnless, margin_of}
use Rattle.maildir_disk.specs.Stamps.{IsFarAhead, IsSettled}
use Rattle.maildir_disk.specs.Quiet.{AreNames}
use Rattle.maildir_disk.specs.SeenSystem.{Looks, SeenSystem}

-- how the stamp of a folder compares with the clock; the pause is what is left until the stamp has settled, and not nothing
abbrev pub IsAged : ℕ → ℕ → Age → Type 0
IsAged stamp now Settled = IsSettled stamp now
IsAged stamp now Ahead = IsFarAhead stamp now
IsAged stamp now (Young pause) = (now + as_nanos pause ≡ stamp + margin_of stamp) × (0 < as_nanos pause)

-- These names were read, and then the folder had this stamp: they are its names, or the stamp is that of a change meanwhile.
pub record Watched (spared : Spared) (sub : Sub) (stamp : ℕ) (old : World) (names : List (List ℕ)) (new : World) : Type 0 where
  pub acts : Acts spared old new
  pub are : AreUnless sub old names new.time stamp

-- the names, if the folder had this stamp after them; other programs may have acted
abbrev pub WatchedOr : {E : Type 0} → Spared → Sub → ℕ → World → Result (Option (Vec (String Global) Global)) E → World → Type 0
WatchedOr spared sub stamp old (Ok (Some names)) new = Watched spared sub stamp old (names_of names) new
WatchedOr spared sub stamp old (Ok None) new = Acts spared old new
WatchedOr spared sub stamp old (Err _) new = Acts spared old new

-- the names of one moment, or none; other programs may have acted
abbrev pub AttemptGives : {E : Type 0} → Spared → Sub → World → Result Attempt E → World → Type 0
AttemptGives spared sub old (Ok (Taken names)) new = Lists spared sub old.files (names_of names) new.files
AttemptGives spared sub old (Ok (Wait _)) new = Acts spared old new
AttemptGives spared sub old (Err _) new = Acts spared old new

-- the folder's names, if any are returned
abbrev pub FoundNames : Sub → Files → Option (Vec (String Global) Global) → Type 0
FoundNames sub s (Some names) = AreNames sub s names
FoundNames sub s None = Unit {0}

-- the folder's names, if the attempt returned names
abbrev pub AttemptGivesQuietly : Sub → Files → Attempt → Type 0
AttemptGivesQuietly sub s (Taken names) = AreNames sub s names
AttemptGivesQuietly sub s (Wait _) = Unit {0}

-- an attempt that gave no names is to be followed by a pause
abbrev pub Pauses : Attempt → Type 0
Pauses (Taken _) = Unit {0}
Pauses (Wait pause) = 0 < as_nanos pause

-- The names were read, and then the stamp.
pub record Watches {E : Type 0} (sub : Sub) (stamp : ℕ) (old : SeenSystem) (result : Result (Option (Vec (String Global) Global)) E)
    (new : SeenSystem) : Type 0 where
  pub looks : Looks old new
  pub watched : Honestly old.honest (λ spared. WatchedOr spared sub stamp old.world result new.world)
  pub exact : old.quiet → IfOk result (FoundNames sub old.world.files)

-- One attempt at a listing was made.
pub record Attempts {E : Type 0} (sub : Sub) (old : SeenSystem) (result : Result Attempt E) (new : SeenSystem) : Type 0 where
  pub looks : Looks old new
  pub looked : Honestly old.honest (λ spared. AttemptGives spared sub old.world result new.world)
  pub exact : old.quiet → IfOk result (AttemptGivesQuietly sub old.world.files)
  pub pauses : IfOk result Pauses

-- The names of one moment were read, in several attempts.
pub record ReadsAtOnce {E : Type 0} (sub : Sub) (old : SeenSystem) (result : Result (Vec (String Global) Global) E) (new : SeenSystem) : Type 0 where
  pub looks : Looks old new
  pub listed : Honestly old.honest (λ spared. Listed spared sub old.world.files result new.world.files)
  pub exact : old.quiet → IfOk result (AreNames sub old.world.files)

-- The names of one moment were read, and then the folder was synced, if it can have messages: what they do not show is gone from what a
-- power cut leaves too.
pub record ReadsDurably {E : Type 0} (sub : Sub) (old : SeenSystem) (result : Result (Vec (String Global) Global) E) (new : SeenSystem) : Type 0 where
  pub reads : ReadsAtOnce sub old result new
  pub unlisted : Honestly old.honest (λ spared.
      IfOk result (λ names. Follows (LeavesListed spared sub (names_of names) old.world.files) old.may_leave new.may_leave))
