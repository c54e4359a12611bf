-- What the parts of a run leave.
use Rattle.std.specs.Prelude.{◌≡◌, ℕ, List, IsPermutation, IsTrue, IsFalse, None, Bool}
use Rattle.std.specs.List.{list_any}
use Rattle.std.specs.FinMap.{get}
use Rattle.maildir_name.specs.declared.target.Target.{Target}
use Rattle.maildir_name.specs.Names.{is_converter_base}
use Rattle.maildir_run.specs.Files.{Spared, Files, homes, is_name, is_spared, is_spared_name, has_base}
use Rattle.maildir_run.specs.Delivery.{Message, IsHome, IsSoundAt, IsSpared, AllSpared, has_home, is_base_of}

-- the only names in `tmp` that are spared are of these
pub record TmpWithin (spared : Spared) (names : List (List ℕ)) (s : Files) : Type 0 where
  pub gone : (name : List ℕ) → IsTrue (is_spared_name spared name) → IsFalse (list_any (is_name name) names) → get s.tmp name ≡ None

-- a message that was missing was written and placed, perhaps
pub record DeliversMessage (spared : Spared) (m : Message) (old new : Files) : Type 0 where
  pub own : IsSpared spared m → IsSoundAt new m
  pub others : (b : List ℕ) → IsTrue (is_spared spared b) → IsFalse (is_name m.target.base b) → IsPermutation (homes old b) (homes new b)

-- these messages have their homes if they are spared, and each other base that is spared has what it had
pub record Progress (spared : Spared) (done : List Message) (old now : Files) : Type 0 where
  pub homes_are : AllSpared spared (IsHome now) done
  pub kept : (b : List ℕ) → IsTrue (is_spared spared b) → IsFalse (is_base_of done b) → IsPermutation (homes old b) (homes now b)

-- the message with this target and this body
abbrev pub message_at : Target → List ℕ → Message
message_at target body = record { target = target; body = body }

-- a target's base is a converter's and its own base, and its name has that base
pub record IsTarget (target : Target) : Type 0 where
  pub named : IsTrue (is_converter_base target.base)
  pub whole : IsTrue (has_base target.base target.base)
  pub under : IsTrue (has_base target.base target.name)

-- this test tells of each base that is spared whether it has a home
abbrev pub Knows : Spared → (List ℕ → Bool) → Files → Type 0
Knows spared is_there s = (b : List ℕ) → IsTrue (is_spared spared b) → is_there b ≡ has_home s b
