-- What is written of messages that are printed one after the other.
use Rattle.std.specs.Prelude.{◌≡◌, ℕ, ◌^◌, ◌<◌, List, [], ◌++◌, length, map, MatchResult, Option, Result}
use Rattle.mbox_text.specs.declared.entry.Entry.{Entry}
use Rattle.mbox_text.specs.Writing.{Writes}
use Rattle.maildir_name.specs.Named.{Counts, Named}

-- what is written for the first messages is a prefix of what is written for all
pub record IsOutput (output : List Entry → List ℕ) : Type 0 where
  pub none : output [] ≡ []
  pub prefix : (a b : List Entry) → (rest : List ℕ) × (output (a ++ b) ≡ output a ++ rest)

-- With Ok these messages were printed too, after any that were printed before. The output for them was written, or a prefix of it after a fault.
abbrev pub PrintsMore : {P E : Type 0} → (List Entry → List ℕ) → (List Entry → P → Type 0) → P → List Entry → Option (List ℕ) → Option (List ℕ)
    → Result (Unit {0}) E → P → Type 0
PrintsMore output printed old entries was is result new =
    (given : List Entry) → printed given old → length (given ++ entries) < 2 ^ 63
    → (bytes : List ℕ) × (output (given ++ entries) ≡ output given ++ bytes) × Writes was is result bytes
    × MatchResult result (λ _. printed (given ++ entries) new) (λ _. Unit {0})

-- this many messages were listed, and these are they, in order; the namer was given their bodies
pub record HasListed (given : List Entry) (namer : Counts) (count : ℕ) : Type 0 where
  pub named : Named (map (λ entry. entry.body) given) namer
  pub count_is : count ≡ length given
