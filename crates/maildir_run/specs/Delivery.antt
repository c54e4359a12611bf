-- What the messages of a text are in a folder: missing or at home, sound, delivered.
use Rattle.std.specs.Prelude.{◌≡◌, ℕ, List, [], ◌∷◌, All, AllPairs, IsPermutation, Bool, true, false, IsTrue, IsFalse, None, ◌⊎◌, length, filter, count_by}
use Rattle.std.specs.List.{list_any}
use Rattle.std.specs.FinMap.{get, keys}
use Rattle.maildir_name.specs.declared.target.Target.{Target}
use Rattle.maildir_name.specs.Names.{is_converter_base, is_converter_name}
use Rattle.maildir_run.specs.Files.{Spared, Files, homes, is_name, is_spared, is_spared_name}

-- a message of a text: where it is delivered, and its body
pub record Message : Type 0 where
  pub target : Target
  pub body : List ℕ

-- whether any file is among these
abbrev pub is_any : List (List ℕ) → Bool
is_any [] = false
is_any (_ ∷ _) = true

-- whether the base has a home
abbrev pub has_home : Files → List ℕ → Bool
has_home s b = is_any (homes s b)

-- the message has a home
abbrev pub HasHome : Files → Message → Type 0
HasHome s m = IsTrue (has_home s m.target.base)

-- the message has no home
abbrev pub IsMissing : Files → Message → Type 0
IsMissing s m = homes s m.target.base ≡ []

-- the message has exactly one home, which holds its body
abbrev pub IsHome : Files → Message → Type 0
IsHome s m = homes s m.target.base ≡ m.body ∷ []

-- the message has at most one home, and that home holds its body
abbrev pub IsSoundAt : Files → Message → Type 0
IsSoundAt s m = IsMissing s m ⊎ IsHome s m

-- the message's base is spared
abbrev pub IsSpared : Spared → Message → Type 0
IsSpared spared m = IsTrue (spared.bases m.target.base)

-- this holds of each of the messages that is spared
abbrev pub AllSpared : Spared → (Message → Type 0) → List Message → Type 0
AllSpared spared P ms = All (λ m. IsSpared spared m → P m) ms

-- the messages' bases are a converter's
abbrev pub AreNamed : List Message → Type 0
AreNamed ms = All (λ m. IsTrue (is_converter_base m.target.base)) ms

-- no two messages have the same base
abbrev pub AreDistinct : List Message → Type 0
AreDistinct ms = AllPairs (λ m n. IsFalse (is_name m.target.base n.target.base)) ms

-- whether a base is one of the messages'
abbrev pub is_base_of : List Message → List ℕ → Bool
is_base_of ms b = list_any (λ m. is_name m.target.base b) ms

-- A folder is sound for the messages that are spared, as against an earlier moment: each has at most one home,
-- which holds its body, and the homes of each other base that is spared hold what they held.
pub record Sound (spared : Spared) (ms : List Message) (old new : Files) : Type 0 where
  pub own : AllSpared spared (IsSoundAt new) ms
  pub others : (b : List ℕ) → IsTrue (is_spared spared b) → IsFalse (is_base_of ms b) → IsPermutation (homes old b) (homes new b)

-- no name that is spared is in `tmp`
abbrev pub IsSwept : Spared → Files → Type 0
IsSwept spared s = (name : List ℕ) → IsTrue (is_spared_name spared name) → get s.tmp name ≡ None

-- Each message that is spared has exactly one home, which holds its body, and no name that is spared is in `tmp`.
pub record Delivered (spared : Spared) (ms : List Message) (s : Files) : Type 0 where
  pub homes_are : AllSpared spared (IsHome s) ms
  pub swept : IsSwept spared s

-- how many of the messages have a home, if this tells which bases have one
abbrev pub there_count : (List ℕ → Bool) → List Message → ℕ
there_count has ms = count_by (λ m. has m.target.base) ms

-- how many converter's names are in `tmp`
abbrev pub leftover_count : Files → ℕ
leftover_count s = length (filter is_converter_name (keys s.tmp))
