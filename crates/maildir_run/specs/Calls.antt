-- The calls of a folder: the effect of each, and what may happen before, within and after it.
use Rattle.std.specs.Prelude.{◌≡◌, ℕ, List, [], ◌∷◌, ◌++◌, map, IsTrue, IsFalse, Option, Some, None, IsPermutation, Result, Ok, Err, ◌+◌, ◌%◌, ◌^◌, ◌⊎◌}
use Rattle.std.specs.String.{string_bytes}
use Rattle.std.specs.declared.vec.Vec.{Vec}
use Rattle.std.specs.declared.string.String.{String}
use Rattle.std.specs.declared.alloc.Global.{Global}
use Rattle.std.specs.FinMap.{get, insert, remove, keys, contains_key}
use Rattle.maildir_name.specs.declared.target.Place.{Place}
use Rattle.maildir_name.specs.declared.target.Place.TheVariants as place
use Rattle.maildir_run.specs.declared.folder.Sub.{Sub}
use Rattle.maildir_run.specs.declared.folder.Sub.TheVariants.{Tmp, New, Cur}
use Rattle.maildir_run.specs.declared.folder.FolderFault.{FolderFault}
use Rattle.maildir_run.specs.declared.folder.FolderFault.TheVariants.{Absent}
use Rattle.maildir_run.specs.declared.folder.FolderFault.TheVariants as fault
use Rattle.maildir_run.specs.Files.{Spared, Files, FileMap, Action, acted, all_bases, has_base, is_name, homes}

-- a call of a folder, with what it was given
pub data Call : Type 0 where
  Listing : (sub : Sub) → Call
  Writing : (name bytes : List ℕ) → Call
  Placing : (name : List ℕ) → (place : Place) → (target : List ℕ) → Call
  Removing : (name : List ℕ) → Call

-- the files of one of the three folders
abbrev pub folder_of : Sub → Files → FileMap
folder_of Tmp s = s.tmp
folder_of New s = s.new
folder_of Cur s = s.cur

-- the file `name` of `tmp`, which holds this if it is there, is under `target` in `new` or `cur`, and no longer in `tmp`
abbrev pub placed : Files → List ℕ → Place → List ℕ → Option (List ℕ) → Files
placed s name p target None = s
placed s name place.New target (Some bytes) = record s { tmp = remove s.tmp name; new = insert s.new target bytes }
placed s name place.Cur target (Some bytes) = record s { tmp = remove s.tmp name; cur = insert s.cur target bytes }

-- the files after a call's effect: a listing has none, a write sets a file of `tmp`, a placement is one
-- rename out of `tmp`, a removal leaves `tmp` without the name (this project's own rule, after maildir(5))
abbrev pub effect : Call → Files → Files
effect (Listing sub) s = s
effect (Writing name bytes) s = record s { tmp = insert s.tmp name bytes }
effect (Placing name p target) s = placed s name p target (get s.tmp name)
effect (Removing name) s = record s { tmp = remove s.tmp name }

-- one thing that happens before, within or after a call
pub data Move : Type 0 where
  -- another program acts
  Other : (action : Action) → Move
  -- the call's effect comes, the first time or again
  Again : Move
  -- a write leaves these bytes under its name in `tmp`; other calls are not torn
  Torn : (bytes : List ℕ) → Move

-- the files after a call was torn
abbrev pub torn : Call → List ℕ → Files → Files
torn (Writing name _) bytes s = record s { tmp = insert s.tmp name bytes }
torn other bytes s = s

-- the files after one move of a call
abbrev pub moved : Spared → Call → Move → Files → Files
moved spared call (Other action) s = acted spared action s
moved spared call Again s = effect call s
moved spared call (Torn bytes) s = torn call bytes s

-- the files after the moves of a call, one after the other
abbrev pub after : Spared → Files → Call → List Move → Files
after spared s call [] = s
after spared s call (m ∷ ms) = after spared (moved spared call m s) call ms

-- the moves are other programs' alone
abbrev pub IsOthers : List Move → Type 0
IsOthers [] = Unit {0}
IsOthers (Other _ ∷ ms) = IsOthers ms
IsOthers (other ∷ ms) = ⊥

-- nothing is torn
abbrev pub IsWhole : List Move → Type 0
IsWhole [] = Unit {0}
IsWhole (Torn _ ∷ ms) = ⊥
IsWhole (other ∷ ms) = IsWhole ms

-- the moves are the call's own alone
abbrev pub IsOwn : List Move → Type 0
IsOwn [] = Unit {0}
IsOwn (Other _ ∷ ms) = ⊥
IsOwn (own ∷ ms) = IsOwn ms

-- a placement finds its file in `tmp`; the other calls need nothing
abbrev pub IsReady : Call → Files → Type 0
IsReady (Placing name _ _) s = IsTrue (contains_key s.tmp name)
IsReady other s = Unit {0}

-- The call answered Ok: other programs acted, then its effect came, then others acted and it may have come again, and nothing was torn.
pub record Succeeded (spared : Spared) (call : Call) (old new : Files) : Type 0 where
  pub before : List Move
  pub rest : List Move
  pub others : IsOthers before
  -- a placement found its file when its effect first came
  pub ready : IsReady call (after spared old call before)
  pub whole : IsWhole rest
  pub left : new ≡ after spared old call (before ++ Again ∷ rest)

-- The call failed: any moves were made, or none.
pub record AnyMoves (spared : Spared) (call : Call) (old new : Files) : Type 0 where
  pub moves : List Move
  pub left : new ≡ after spared old call moves

-- The listing answered these names: each name of the folder once, as of one moment of the call, in any order.
pub record Lists (spared : Spared) (sub : Sub) (old : Files) (names : List (List ℕ)) (new : Files) : Type 0 where
  pub before : List Move
  pub rest : List Move
  pub whole_before : IsWhole before
  pub whole : IsWhole rest
  pub names_are : IsPermutation names (keys (folder_of sub (after spared old (Listing sub) before)))
  pub left : new ≡ after spared old (Listing sub) (before ++ Again ∷ rest)

-- a call took effect as reported
abbrev pub Called : {A E : Type 0} → Spared → Call → Files → Result A E → Files → Type 0
Called spared call old (Ok _) new = Succeeded spared call old new
Called spared call old (Err _) new = AnyMoves spared call old new

-- the names of a list of texts, as lists of bytes
abbrev pub names_of : Vec (String Global) Global → List (List ℕ)
names_of names = map string_bytes names.items

-- a listing took effect as reported
abbrev pub Listed : {E : Type 0} → Spared → Sub → Files → Result (Vec (String Global) Global) E → Files → Type 0
Listed spared sub old (Ok names) new = Lists spared sub old (names_of names) new
Listed spared sub old (Err _) new = AnyMoves spared (Listing sub) old new

-- in a quiet folder no other program acts, and a call that answered Ok had its effect once
abbrev pub CalledQuietly : {A E : Type 0} → Call → Files → Result A E → Files → Type 0
CalledQuietly call old (Ok _) new = IsReady call old × (new ≡ effect call old)
CalledQuietly call old (Err _) new = (moves : List Move) × IsOwn moves × (new ≡ after all_bases old call moves)

-- a count of 128 bits goes up by one: after its greatest number comes 0
abbrev pub GoesUp : ℕ → ℕ → Type 0
GoesUp old new = new ≡ (old + 1) % 2 ^ 128

-- the count of failures goes up with `Absent` and `Failed`, and with no other answer
abbrev pub CountsFailure : {A : Type 0} → Result A FolderFault → ℕ → ℕ → Type 0
CountsFailure (Err Absent) old new = GoesUp old new
CountsFailure (Err fault.Failed) old new = GoesUp old new
CountsFailure other old new = new ≡ old

-- an answer is not `Absent`
abbrev pub IsNotAbsent : {A : Type 0} → Result A FolderFault → Type 0
IsNotAbsent (Err Absent) = ⊥
IsNotAbsent other = Unit {0}

-- `Absent` comes from a placement alone
abbrev pub MayAnswer : {A : Type 0} → Call → Result A FolderFault → Type 0
MayAnswer (Placing _ _ _) result = Unit {0}
MayAnswer other result = IsNotAbsent result

-- the call places no file under this base
abbrev pub PlacesElsewhere : List ℕ → Call → Type 0
PlacesElsewhere b (Placing _ _ target) = IsFalse (has_base b target)
PlacesElsewhere b other = Unit {0}

-- the call does not write this name
abbrev pub WritesElsewhere : List ℕ → Call → Type 0
WritesElsewhere name (Writing own _) = IsFalse (is_name name own)
WritesElsewhere name other = Unit {0}

-- in `tmp` a name is as it was, or gone
abbrev pub StaysOrGoes : List ℕ → Files → Files → Type 0
StaysOrGoes name old new = (get new.tmp name ≡ get old.tmp name) ⊎ (get new.tmp name ≡ None)

-- the base has no home, or one that holds what `tmp` had
abbrev pub NoneOrOne : List ℕ → Option (List ℕ) → Files → Type 0
NoneOrOne b had s = (homes s b ≡ []) ⊎ ((bytes : List ℕ) × (had ≡ Some bytes) × (homes s b ≡ bytes ∷ []))
