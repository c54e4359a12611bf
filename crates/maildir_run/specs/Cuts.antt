-- What a power cut may leave of a folder, from one call to the next.
-- For `new` and `cur`: the files that are found after the cut. For `tmp`: what each file that is there now would hold, wherever it is found.
use Rattle.std.specs.Prelude.{◌≡◌, ℕ, List, [], ◌∷◌, IsTrue, IsFalse, Option, Some, None, Result, Ok, Err, if◌then◌else◌}
use Rattle.std.specs.List.{list_any}
use Rattle.std.specs.FinMap.{get, insert}
use Rattle.maildir_name.specs.Names.{base}
use Rattle.maildir_run.specs.declared.folder.Sub.{Sub}
use Rattle.maildir_run.specs.declared.folder.Sub.TheVariants.{Tmp, New, Cur}
use Rattle.maildir_run.specs.Calls.{Call, Listing, Writing, Placing, Move, moved}
use Rattle.maildir_run.specs.Files.{Spared, Files, Action, ToCur, Reflag, is_spared, is_spared_name, may_take, has_base, held_under, homes}

-- one thing that a power cut keeps
pub data CutMove (M : Type 0) : Type 0 where
  -- a move
  Came : (move : M) → CutMove M
  -- half of a rename of another program: its file is under both names
  Doubled : (action : Action) → CutMove M

-- a file, which holds this if it is there, is under a free name of the same base in `cur` too
abbrev pub linked : Files → List ℕ → List ℕ → Option (List ℕ) → Files
linked s name target None = s
linked s name target (Some bytes) = if may_take s.cur name target then record s { cur = insert s.cur target bytes } else s

-- the files after half of a rename was kept
abbrev pub doubled : Action → Files → Files
doubled (ToCur name target) s = linked s name target (get s.new name)
doubled (Reflag name target) s = linked s name target (get s.cur name)
doubled other s = s

-- the files after what was kept, one thing after the other; `does` says what a move makes of them
abbrev pub left_after : {M : Type 0} → (M → Files → Files) → Files → List (CutMove M) → Files
left_after does s [] = s
left_after does s (Came move ∷ kept) = left_after does (does move s) kept
left_after does s (Doubled action ∷ kept) = left_after does (doubled action s) kept

-- no rename is half kept
abbrev pub AreWhole : {M : Type 0} → List (CutMove M) → Type 0
AreWhole [] = Unit {0}
AreWhole (Came _ ∷ kept) = AreWhole kept
AreWhole (Doubled _ ∷ kept) = ⊥

-- A power cut leaves any of the moves of a call, each by itself, or none.
pub record Leaves (spared : Spared) (call : Call) (old new : Files) : Type 0 where
  pub kept : List (CutMove Move)
  pub are : new ≡ left_after (moved spared call) old kept
  -- no rename is half kept, if a power cut keeps or loses each as one change
  pub whole : IsTrue spared.whole → AreWhole kept

-- a written file is found with its bytes, wherever it is found
abbrev pub IsFoundWhole : Spared → Call → Files → Type 0
IsFoundWhole spared (Writing name bytes) s = IsTrue (is_spared_name spared name) → (held : List ℕ) → get s.tmp name ≡ Some held → held ≡ bytes
IsFoundWhole spared other s = Unit {0}

-- what a power cut leaves of a call with this answer
abbrev pub LeavesOf : {A E : Type 0} → Spared → Call → Files → Result A E → Files → Type 0
LeavesOf spared call old (Ok _) new = Leaves spared call old new × IsFoundWhole spared call new
LeavesOf spared call old (Err _) new = Leaves spared call old new

-- Of a base that is spared and that none of these names has, a power cut leaves no file in `new`. It leaves none in `cur`, if `new` had none as the
-- call began, and a power cut would have left none there: mail readers move files from `new` to `cur`.
abbrev pub LeavesUnlisted : Spared → Sub → List (List ℕ) → Files → Files → Files → Type 0
LeavesUnlisted spared Tmp names old before now = Unit {0}
LeavesUnlisted spared New names old before now =
    (b : List ℕ) → IsTrue (is_spared spared b) → IsFalse (list_any (has_base b) names) → held_under b now.new ≡ []
LeavesUnlisted spared Cur names old before now =
    (b : List ℕ) → IsTrue (is_spared spared b) → IsFalse (list_any (has_base b) names) → held_under b old.new ≡ [] → held_under b before.new ≡ []
    → held_under b now.cur ≡ []

-- What a power cut leaves of a listing with these names: what they do not show is gone from it too, so that nothing brings it back.
pub record LeavesListed (spared : Spared) (sub : Sub) (names : List (List ℕ)) (old before now : Files) : Type 0 where
  pub leaves : Leaves spared (Listing sub) before now
  pub unlisted : LeavesUnlisted spared sub names old before now

-- a file that is placed is the first of its base, if that is spared
abbrev pub FindsNone : Spared → Call → Files → Type 0
FindsNone spared (Placing name place target) s = IsTrue (is_spared_name spared target) → homes s (base target) ≡ []
FindsNone spared other s = Unit {0}

-- whatever a power cut may leave now follows from something that a cut might have left before
abbrev pub Follows : (Files → Files → Type 0) → (Files → Type 0) → (Files → Type 0) → Type 0
Follows of before now = (new : Files) → now new → (old : Files) × before old × of old new
