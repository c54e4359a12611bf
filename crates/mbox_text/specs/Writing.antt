-- Which bytes a writer has taken.
use Rattle.std.specs.Prelude.{◌≡◌, ℕ, List, ◌++◌, Option, MatchResult, Result}
use Rattle.std.specs.Io.KnownBytes.{Appends}

-- the writer appended a prefix of these bytes
abbrev pub AppendsPrefix : Option (List ℕ) → Option (List ℕ) → List ℕ → Type 0
AppendsPrefix old new bytes = (taken rest : List ℕ) × (bytes ≡ taken ++ rest) × Appends old new taken

-- the writer took all of these bytes if the result is `Ok`, else a prefix of them
abbrev pub Writes : {T E : Type 0} → Option (List ℕ) → Option (List ℕ) → Result T E → List ℕ → Type 0
Writes old new result bytes = MatchResult result (λ _. Appends old new bytes) (λ _. AppendsPrefix old new bytes)
