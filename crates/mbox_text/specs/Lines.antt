-- The lines of a text. A line ends with the byte 10, LF, as in the default format of RFC 4155, appendix A.
use Rattle.std.specs.Prelude.{◌≡◌, ℕ, ◌==◌, false, List, [], ◌∷◌, ◌++◌, ◌⊎◌, if◌then◌else◌}

-- these lines, with the byte c before the first of them
abbrev pub before_first : ℕ → List (List ℕ) → List (List ℕ)
before_first c [] = (c ∷ []) ∷ []
before_first c (l ∷ ls) = (c ∷ l) ∷ ls

-- the lines of a text: none is empty, together they are the text, and each ends with its only `\n`, which the last may lack (RFC 4155)
unfoldable pub lines : List ℕ → List (List ℕ)
lines [] = []
lines (c ∷ text) = if c == 10 then (10 ∷ []) ∷ lines text else before_first c (lines text)

-- a text is empty or ends with `\n`
abbrev pub Ended : List ℕ → Type 0
Ended text = (text ≡ []) ⊎ (prefix : List ℕ) × (text ≡ prefix ++ 10 ∷ [])

-- a text holds no `\n`
abbrev pub NoEnd : List ℕ → Type 0
NoEnd [] = Unit {0}
NoEnd (c ∷ text) = ((c == 10) ≡ false) × NoEnd text
