-- The first line of a text, and the first line of a body that is to be quoted.
use Rattle.std.specs.Prelude.{◌≡◌, ℕ, ◌<◌, ◌≤◌, length, take, List, [], ◌∷◌, ◌⊎◌, true, false, drop, Option, MatchOption}
use Rattle.mbox_text.specs.Lines.{Ended, lines}
use Rattle.mbox_text.specs.Quoting.{quotable}

-- the first n bytes of the text are its first line
pub record IsLine (text : List ℕ) (n : ℕ) : Type 0 where
  pub some : 0 < n
  pub within : n ≤ length text
  pub line : lines (take n text) ≡ take n text ∷ []
  pub ends : (n ≡ length text) ⊎ Ended (take n text)

-- no line is quotable
abbrev pub NoneQuotable : List (List ℕ) → Type 0
NoneQuotable [] = Unit {0}
NoneQuotable (l ∷ ls) = (quotable l ≡ false) × NoneQuotable ls

-- the first quotable line of the text begins at this place
pub record FirstQuotable (text : List ℕ) (n : ℕ) : Type 0 where
  pub within : n < length text
  pub ended : Ended (take n text)
  pub none : NoneQuotable (lines (take n text))
  pub there : quotable (drop n text) ≡ true

-- the result is where the first quotable line of the text begins, or None if no line is quotable
abbrev pub FindsQuotable : List ℕ → Option ℕ → Type 0
FindsQuotable text result = MatchOption result (NoneQuotable (lines text)) (λ n. FirstQuotable text n)
