-- What a power cut may leave of the messages of a text.
use Rattle.std.specs.Prelude.{◌≡◌, ◌≤◌, ◌⊎◌, ℕ, List, length, All, Contains, IsTrue}
use Rattle.std.specs.FinMap.{get, contains_key}
use Rattle.maildir_run.specs.declared.folder.Sub.{Sub}
use Rattle.maildir_run.specs.declared.folder.Sub.TheVariants.{New, Cur}
use Rattle.maildir_run.specs.Calls.{folder_of}
use Rattle.maildir_run.specs.Cuts.{AreWhole, CutMove, left_after}
use Rattle.maildir_run.specs.Delivery.{Message, IsHome, AllSpared}
use Rattle.maildir_run.specs.Files.{Files, Action, acted, all_acted, homes, Spared, is_spared, is_spared_name}
use Rattle.maildir_run.specs.Tasks.{Listings, Stopped, honestly, leaving, planned_tasks}
use Rattle.maildir_run.specs.Texts.{MessagesOf}

-- What a power cut leaves of the message is intact.
pub record IsIntact (spared : Spared) (s : Files) (m : Message) : Type 0 where
  -- each file of it in `new` or `cur` holds its body
  pub holds : (bytes : List ℕ) → Contains (homes s m.target.base) bytes → bytes ≡ m.body
  -- and there is at most one, if a power cut keeps or loses each rename as one change
  pub once : IsTrue spared.whole → length (homes s m.target.base) ≤ 1

-- each message that is spared is intact in whatever a power cut may leave
abbrev pub AreIntact : Spared → List Message → (Files → Type 0) → Type 0
AreIntact spared ms may_leave = (left : Files) → may_leave left → AllSpared spared (IsIntact spared left) ms

-- a file of the message in `new` or `cur` holds its body
abbrev pub HasBody : Files → Message → Type 0
HasBody s m = Contains (homes s m.target.base) m.body

-- each message that is spared has a file with its body in whatever a power cut may leave
abbrev pub Survive : Spared → List Message → (Files → Type 0) → Type 0
Survive spared ms may_leave = (left : Files) → may_leave left → AllSpared spared (HasBody left) ms

-- messages with the same base have the same body
abbrev pub AreAlike : List Message → List Message → Type 0
AreAlike others ms = All (λ m. All (λ n. n.target.base ≡ m.target.base → n.body ≡ m.body) ms) others

-- The messages that are spared are at home, each has a file with its body in whatever a power cut may leave, and a power cut leaves the Maildir.
pub record AreSafe (spared : Spared) (ms : List Message) (s : Files) (may_leave : Files → Type 0) (rooted : Type 0) : Type 0 where
  pub home : AllSpared spared (IsHome s) ms
  pub survive : Survive spared ms may_leave
  pub is_rooted : rooted

-- no base that is spared and had at most one file has more after a power cut
abbrev pub LeavesOneEach : Spared → Files → Files → Type 0
LeavesOneEach spared s left = (b : List ℕ) → IsTrue (is_spared spared b) → length (homes s b) ≤ 1 → length (homes left b) ≤ 1

-- a power cut leaves no file under two names: it keeps or loses each rename as one change, or this time it kept none in half
abbrev pub IsSingle : Spared → Files → Files → Type 0
IsSingle spared s left = IsTrue spared.whole ⊎ LeavesOneEach spared s left

-- While only other programs act, a power cut leaves any of their actions, each by itself, or none.
pub record LeftByOthers (spared : Spared) (old new : Files) : Type 0 where
  pub kept : List (CutMove Action)
  pub are : new ≡ left_after (acted spared) old kept
  -- no rename is half kept, if a power cut keeps or loses each as one change
  pub whole : IsTrue spared.whole → AreWhole kept

-- a file of this name in `tmp` has the same bytes after a power cut, if the name is spared
abbrev pub KeepsHeld : Spared → List ℕ → Files → (Files → Type 0) → Type 0
KeepsHeld spared name s may_leave = (left : Files) → may_leave left → IsTrue (is_spared_name spared name) → get left.tmp name ≡ get s.tmp name

-- At some moment of the call, a power cut would have left exactly the names that are spared and that the folder had then. What other programs did
-- later may be left or lost.
pub record KeepsNames (spared : Spared) (sub : Sub) (old before new left : Files) : Type 0 where
  pub moment : Files
  pub actions : List Action
  pub moment_is : moment ≡ all_acted spared actions old
  pub rest : List Action
  pub new_is : new ≡ all_acted spared rest moment
  -- what a power cut would have left at that moment
  pub there : Files
  pub earlier : LeftByOthers spared before there
  pub later : LeftByOthers spared there left
  pub names_are : (name : List ℕ) → IsTrue (is_spared_name spared name) → contains_key (folder_of sub there) name ≡ contains_key (folder_of sub moment) name

-- a folder at one moment: its files, and what a power cut would leave
pub record FilesAndLeft : Type 0 where
  pub files : Files
  pub left : Files

-- A sync of the Maildir that answered Ok: first the names in `new` became durable, then those in `cur`.
pub record Syncs (spared : Spared) (old before new left : Files) : Type 0 where
  pub mid : FilesAndLeft
  pub first : KeepsNames spared New old before mid.files mid.left
  pub then : KeepsNames spared Cur mid.files mid.left new left

-- A run over a text was killed: from some moment on all of its calls failed. So the planned calls succeeded up to one, of which any moves were
-- made, or none, and no other call was made.
abbrev pub IsKilled : Spared → List ℕ → FilesAndLeft → FilesAndLeft → Type 0
IsKilled spared t old new =
    (ms : List Message) → MessagesOf t ms → (names : Listings)
    × Stopped (honestly spared) (planned_tasks names ms) old.files new.files
    × ((names : Listings) × Stopped (leaving spared) (planned_tasks names ms) old.left new.left)
