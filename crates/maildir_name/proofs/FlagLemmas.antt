-- Lines, headers and fields.
use Rattle.std.proofs.Common.{◌≡◌, ℕ, ◌+◌, ◌-◌, ◌<◌, ◌≤◌, zero, suc, Bool, true, false, eqb, List, [], ◌∷◌, length}
use Rattle.std.proofs.Common.{get_or, take, drop, position, Some, None, refl, arith, le_refl, zero-le, add-one}
use Rattle.std.proofs.lemmas.Bool.{eqb-true, cases_Bool}
use Rattle.std.proofs.lemmas.List.{drop_all, take_all, take_rest, nil_from_length}
use Rattle.std.proofs.lemmas.List.Quantifiers.{position-Some}
use Rattle.std.proofs.lemmas.List.Sums.{fails_before_first}
use Rattle.std.specs.List.{position_or_len}
use Rattle.maildir_name.specs.Flags.{lines, is_blank, header, begins_with_name, field}

abbrev pub is_end : ℕ → Bool
is_end c = eqb c 10

lines-cut : (text : List ℕ) (n : ℕ) → n < length text → is_end (get_or text n 0) ≡ true → ((k : ℕ) → k < n → is_end (get_or text k 0) ≡ false)
    → lines text ≡ take (suc n) text ∷ lines (drop (suc n) text)
unfolding lines
lines-cut [] n l e h = absurd (omega arith)
lines-cut (c ∷ text) zero l e h = grind (arith, eqb-true)
lines-cut (c ∷ text) (suc n) l e h =
    let first : is_end c ≡ false = h zero (omega arith) in
    rw (first, lines-cut text n (omega (arith, l)) e (λ k low. h (suc k) (omega arith))) refl

lines-whole : (text : List ℕ) → 0 < length text → ((k : ℕ) → k < length text → is_end (get_or text k 0) ≡ false) → lines text ≡ text ∷ []
unfolding lines
lines-whole [] l h = absurd (omega arith)
lines-whole (c ∷ []) l h = let first = h zero l in rw first refl
lines-whole (c ∷ d ∷ text) l h =
    let n : length (c ∷ d ∷ text) ≡ suc (length (d ∷ text)) = refl in
    let m : length (d ∷ text) ≡ suc (length text) = refl in
    let first : is_end c ≡ false = h zero (omega arith) in
    rw (first, lines-whole (d ∷ text) (omega arith) (λ k low. h (suc k) (omega (arith, low)))) refl

-- the first line of a text ends with the first `\n`
pub lines_some : (text : List ℕ) {at : ℕ} → position is_end text ≡ Some at → lines text ≡ take (at + 1) text ∷ lines (drop (at + 1) text)
lines_some text {at} e = grind (arith, position-Some, add-one, lines-cut)

missing : (text : List ℕ) → position is_end text ≡ None → length text ≤ position_or_len is_end text
missing text e = grind (arith, cases_Bool)

-- a text without a `\n` is a line
pub lines_none : (text : List ℕ) → 0 < length text → position is_end text ≡ None → lines text ≡ take (length text) text ∷ lines (drop (length text) text)
unfolding lines
lines_none text l e = grind (arith, missing, take_all, le_refl, drop_all, lines-whole, fails_before_first)

header-nil : {body : List ℕ} → body ≡ [] → header body ≡ []
unfolding header lines
header-nil e = rw e refl

header-blank : (body : List ℕ) {line : List ℕ} {more : List (List ℕ)} → lines body ≡ line ∷ more → is_blank line ≡ true → header body ≡ []
unfolding header
header-blank body {line} {more} e b = grind (arith)

header-line : (body : List ℕ) {line : List ℕ} (after : List ℕ) → lines body ≡ line ∷ lines after → is_blank line ≡ false → header body ≡ line ∷ header after
unfolding header
header-line body {line} after e b = grind (arith)

field-nil : (name : List ℕ) → field name [] ≡ []
unfolding field
field-nil name = drop_all (length name) [] zero-le

field-found : (name line : List ℕ) (more : List (List ℕ)) → begins_with_name name line ≡ true → field name (line ∷ more) ≡ drop (length name) line
unfolding field
field-found name line more b = rw b refl

field-passed : (name line : List ℕ) (more : List (List ℕ)) → begins_with_name name line ≡ false → field name (line ∷ more) ≡ field name more
unfolding field
field-passed name line more b = rw b refl

-- the search for a field reads the first line of the rest of the header
pub record FieldRead (name body rest line after : List ℕ) (n : ℕ) : Type 0 where
  pub same : field name (header rest) ≡ field name (header body)
  pub first : lines rest ≡ take n rest ∷ lines (drop n rest)
  pub prefix : line ≡ take n rest
  pub back : after ≡ drop n rest

module _ {name body rest line after : List ℕ} {n : ℕ} (r : FieldRead name body rest line after n) where
  reads_line : lines rest ≡ line ∷ lines after
  reads_line = rw (r.prefix, r.back) r.first

  pub field_blank : {blank : Bool} → blank ≡ is_blank line → blank ≡ true → [] ≡ field name (header body)
  field_blank e t = grind (arith, field-nil, header-blank, reads_line)

  module _ {blank begins : Bool} (e : blank ≡ is_blank line) (f : blank ≡ false) (e' : begins ≡ begins_with_name name line) where
    reads_more : field name (line ∷ header after) ≡ field name (header body)
    reads_more = grind (arith, header-line, reads_line)

    pub field_then : begins ≡ true → take (length line - length name) (drop (length name) line) ≡ field name (header body)
    field_then t = grind (arith, take_rest, field-found, reads_more)

    pub field_else : begins ≡ false → field name (header after) ≡ field name (header body)
    field_else t = grind (arith, field-passed, reads_more)

pub field_end : (name body rest : List ℕ) {empty : Bool} → field name (header rest) ≡ field name (header body)
    → empty ≡ eqb (length rest) 0 → empty ≡ true → [] ≡ field name (header body)
field_end name body rest same e t = grind (arith, field-nil, header-nil, nil_from_length, eqb-true)
