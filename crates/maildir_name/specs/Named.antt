-- What a namer keeps of the bodies that it has named.
use Rattle.std.specs.Prelude.{◌≡◌, ℕ, List, count_by, unwrap_or}
use Rattle.std.specs.Cmp.Lexicographic.{slice_cmp}
use Rattle.std.specs.Map.{lookup}
use Rattle.std.specs.Ordering.{nat_cmp, eq_by_cmp}
use Rattle.std.specs.Str.{bytes_eq}
use Rattle.sha2.specs.Sha256.{sha256}

-- digests, each with a count
abbrev pub Counts : Type 0
Counts = List (List ℕ × ℕ)

-- the count of a digest, or 0 if there is none
abbrev pub count_of : Counts → List ℕ → ℕ
count_of counts digest = unwrap_or (lookup (eq_by_cmp (slice_cmp nat_cmp) digest) counts) 0

-- the counts are those of these bodies: for each digest, how many of them have it
pub record Named (bodies : List (List ℕ)) (counts : Counts) : Type 0 where
  pub exact : (digest : List ℕ) → count_of counts digest ≡ count_by (λ body. bytes_eq digest (sha256 body)) bodies
