-- Where the messages of a text are delivered: their bases, places and names.
use Rattle.std.specs.Prelude.{ℕ, Bool, ◌||◌, List, [], ◌∷◌, ◌++◌, length, take, map, filter, zip, count_by, slice_index_or, if◌then◌else◌}
use Rattle.std.specs.List.{range_with_len}
use Rattle.std.specs.Str.{bytes_eq}
use Rattle.std.specs.Fmt.{decimal}
use Rattle.sha2.specs.Sha256.{sha256}
use Rattle.hex.specs.Hex.{encode_lower}
use Rattle.maildir_name.specs.declared.flags.Flags.{Flags}
use Rattle.maildir_name.specs.declared.target.Place.TheVariants.{New, Cur}
use Rattle.maildir_name.specs.declared.target.Target.{Target}
use Rattle.maildir_name.specs.Flags.{flags}

-- the digits of a body's digest: SHA-256 in lower-case hexadecimal (FIPS 180-4)
abbrev pub digest_text : List ℕ → List ℕ
digest_text body = encode_lower (sha256 body)

-- whether two bodies have the same digest
abbrev pub same_digest : List ℕ → List ℕ → Bool
same_digest a b = bytes_eq (sha256 a) (sha256 b)

-- the base of the n-th body with one digest: the digest's digits, a dot and n in decimal (this project's own rule)
abbrev pub numbered : List ℕ → ℕ → List ℕ
numbered body n = digest_text body ++ 46 ∷ decimal n

-- a letter, if its flag is set
abbrev pub letter_if : Bool → ℕ → List ℕ
letter_if set letter = if set then letter ∷ [] else []

-- the letters of the flags that are set: `F`, `R`, `S` and `T`, in ASCII order ("Using maildir format")
abbrev pub letters : Flags → List ℕ
letters f = letter_if f.flagged 70 ++ letter_if f.replied 82 ++ letter_if f.seen 83 ++ letter_if f.trashed 84

-- whether a flag is set
abbrev pub is_marked : Flags → Bool
is_marked f = f.is_old || f.flagged || f.replied || f.seen || f.trashed

-- the target of a base: in `cur` under the base, `:2,` and the letters if a flag is set, else in `new` under the base (maildir(5), this project's own rule)
abbrev pub under_flags : List ℕ → Flags → Target
under_flags b f = if is_marked f
    then record { base = b; place = Cur; name = b ++ 58 ∷ 50 ∷ 44 ∷ letters f }
    else record { base = b; place = New; name = b }

-- the target of the body that follows the bodies `before`: its number counts the bodies up to and with it that have its digest (this project's own rule)
unfoldable pub target : List (List ℕ) → List ℕ → Target
target before body = under_flags (numbered body (count_by (same_digest body) (before ++ body ∷ []))) (flags body)

-- the targets of the bodies of one text, in order
unfoldable pub targets : List (List ℕ) → List Target
targets bodies = map (λ k. target (take k bodies) (slice_index_or bodies k [])) (range_with_len 0 (length bodies))

-- the bases of the targets that belong to one body, in order
abbrev pub bases_of : List ℕ → List (List ℕ) → List (List ℕ)
bases_of body bodies =
    map (λ (entry : List ℕ × Target). entry.1.base) (filter (λ (entry : List ℕ × Target). bytes_eq body entry.0) (zip bodies (targets bodies)))

-- the bases of a body with the numbers from 1 up to n
abbrev pub numbered_up_to : List ℕ → ℕ → List (List ℕ)
numbered_up_to body n = map (numbered body) (range_with_len 1 n)
