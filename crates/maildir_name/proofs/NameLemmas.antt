-- Bases and this converter's names.
use Rattle.std.proofs.Common.{◌≡◌, ℕ, ◌+◌, ◌-◌, ◌<◌, ◌≤◌, ◌^◌, Bool, true, false, ◌&&◌, eqb, leb, List, [], ◌∷◌, ◌++◌, length, get_or, take, drop, refl, sym}
use Rattle.std.proofs.Common.{◌∙◌, arith, inl, inr, Result, Ok, Err, is_ok, OkIff, length-append, length-drop, length-take-le, get_or-take, get_or-drop}
use Rattle.std.specs.List.{before_first, after_first, position_or_len, list_all}
use Rattle.std.specs.Int.{IsInRange}
use Rattle.std.specs.Str.{all_ascii_digits}
use Rattle.std.specs.Str.Parse.{digits_value, ParsesUnsigned}
use Rattle.std.proofs.lemmas.Bool.{both_ways, and_parts, and_from, and_left, and_right, and_cases, cases_eq, cases_lt}
use Rattle.std.proofs.lemmas.Bool.{cases_order, leb-true, leb-false, le-leb, lt-leb, eqb-true, eq-eqb, ne_eqb, false_from_ne_true}
use Rattle.std.proofs.lemmas.List.{take_all, take_at, get_or_at, get_or_past, get_or_append_left}
use Rattle.std.proofs.lemmas.List.Sums.{position_or_len_is, passes_at_first, AllPass-from_list_all}
use Rattle.std.proofs.lemmas.Str.Parse.{IsNumeralModel, numerals_by_value, tells_all_ascii_digits, parse_plain, not_in_digits}
use Rattle.maildir_name.specs.Names.{base, is_colon, is_lower_hex_digit, is_occurrence, is_converter_base, is_converter_name, IsConverterBase}

-- a byte that is no digit is not among digits
pub hex_is_not : (c d : ℕ) → is_lower_hex_digit c ≡ true → is_lower_hex_digit d ≡ false → c ≡ d → ⊥
hex_is_not c d h n e = grind (arith, both_ways)

-- a base of this converter in its parts
pub record Parts (b : List ℕ) : Type 0 where
  pub digits : list_all is_lower_hex_digit (take 64 b) ≡ true
  pub dot : get_or b 64 0 ≡ 46
  pub number : is_occurrence (drop 65 b) ≡ true

pub parts_of : (b : List ℕ) → IsConverterBase b → Parts b
unfolding is_converter_base
parts_of b h = grind (arith, and_parts, eqb-true)

-- a base of this converter is longer than its 64 digits
pub parts_long : {b : List ℕ} → Parts b → 64 < length b
parts_long {b} p = grind (arith, cases_lt, get_or_past)

-- each of the first 64 bytes of such a base is a digit
pub parts_digit : {b : List ℕ} → Parts b → (k : ℕ) → k < 64 → is_lower_hex_digit (get_or b k 0) ≡ true
parts_digit {b} p k h =
    grind (arith, parts_long p, AllPass-from_list_all is_lower_hex_digit (take 64 b) p.digits k 0, length-take-le 64 b, get_or-take 64 b k 0)

abbrev pub is_dot : ℕ → Bool
is_dot c = eqb c 46

-- the first dot of such a base follows its digits
pub dot_at : {b : List ℕ} → Parts b → position_or_len is_dot b ≡ 64
dot_at {b} p =
    position_or_len_is is_dot b 64 0 (omega (arith, parts_long p))
    (λ k h. ne_eqb (get_or b k 0) 46 (hex_is_not (get_or b k 0) 46 (parts_digit p k h) refl))
    (λ _. eq-eqb (get_or b 64 0) 46 p.dot)

swap_true : (x : Bool) {y : Bool} (z : Bool) → y ≡ true → (x && y && z) ≡ (x && z)
swap_true true z e = rw e refl
swap_true false z e = refl

-- a base that is cut at its first dot
pub converter_cut : (b : List ℕ) → position_or_len is_dot b < length b
    → (eqb (length (before_first is_dot b)) 64 && list_all is_lower_hex_digit (before_first is_dot b) && is_occurrence (after_first is_dot b))
    ≡ is_converter_base b
unfolding is_converter_base
converter_cut b l = elim (cases_eq (position_or_len is_dot b) 64) [
  | inl e ↦
      let dot = rw e at (passes_at_first is_dot b 0 l) in
      let long = rw e at l in
      let len : length (take 64 b) ≡ 64 = length-take-le 64 b (omega arith) in
      rw (e, eq-eqb (length (take 64 b)) 64 len) (sym (swap_true (list_all is_lower_hex_digit (take 64 b)) (is_occurrence (drop 65 b)) dot))
  | inr n ↦
      let len : length (before_first is_dot b) ≡ position_or_len is_dot b = length-take-le (position_or_len is_dot b) b (omega arith) in
      rw (ne_eqb (length (before_first is_dot b)) 64 (λ e. n (sym len ∙ e)))
      (sym (false_from_ne_true (is_converter_base b) (λ h. n (dot_at (parts_of b h)))))
]

-- a base without a dot
pub converter_uncut : (b : List ℕ) → position_or_len is_dot b ≡ length b → false ≡ is_converter_base b
converter_uncut b e = sym (false_from_ne_true (is_converter_base b) (λ h.
    let p = parts_of b h in
    let l = parts_long p in
    let d = dot_at p in absurd (omega (arith, l, d, e))))

-- decimal digits and their number
pub own : IsNumeralModel (λ ds. all_ascii_digits ds ≡ true) (digits_value 10)
own = grind (arith, numerals_by_value, tells_all_ascii_digits)

starts : (text : List ℕ) → 49 ≤ get_or text 0 0 → 0 < length text
starts [] h = absurd (omega arith)
starts (c ∷ text) h = grind (arith)

parsed : {E : Type 0} (text : List ℕ) (r : Result ℕ E) → 49 ≤ get_or text 0 0
    → OkIff r ((all_ascii_digits text ≡ true) × (0 < length text) × (digits_value 10 text < 2 ^ 64)) (digits_value 10 text) → is_ok r ≡ is_occurrence text
unfolding is_occurrence
parsed text (Ok x) low h = grind (arith, and_from, le-leb)
parsed text (Err e) low h = grind (arith, starts text low)

-- a text that begins with a digit but zero is an occurrence number just where it is parsed
pub occurrence_parsed : {E : Type 0} (text : List ℕ) (r : Result ℕ E) → 49 ≤ get_or text 0 0 → get_or text 0 0 ≤ 57
    → ParsesUnsigned 64 10 text r → is_ok r ≡ is_occurrence text
occurrence_parsed text r low high h = grind (arith, parsed, parse_plain, own)

-- a text that begins with another byte is no occurrence number
pub occurrence_low : (text : List ℕ) → get_or text 0 0 < 49 → false ≡ is_occurrence text
unfolding is_occurrence
occurrence_low text h = grind (arith, and_left, and_right, lt-leb)

pub occurrence_high : (text : List ℕ) → 57 < get_or text 0 0 → false ≡ is_occurrence text
unfolding is_occurrence
occurrence_high [] h = absurd (omega arith)
occurrence_high (c ∷ text) h = grind (arith, and_right, lt-leb)

-- the text begins with a digit other than zero, and is then parsed
pub occurrence_then : {E : Type 0} {text bytes : List ℕ} {begins answer : Bool} (r : Result ℕ E) → bytes ≡ text
    → begins ≡ (leb 49 (get_or bytes 0 0) && leb (get_or bytes 0 0) 57) → begins ≡ true
    → ParsesUnsigned 64 10 text r → answer ≡ is_ok r → answer ≡ is_occurrence text
occurrence_then {text} r is b t h a = grind (arith, and_parts, occurrence_parsed, leb-true)

pub occurrence_else : {text bytes : List ℕ} {begins : Bool} → bytes ≡ text
    → begins ≡ (leb 49 (get_or bytes 0 0) && leb (get_or bytes 0 0) 57) → begins ≡ false → begins ≡ is_occurrence text
occurrence_else {text} is b f = grind (arith, and_cases, occurrence_low, leb-false, occurrence_high)

-- the parts of a base before and after its first dot
abbrev pub AreRound : List ℕ → List ℕ → List ℕ → Type 0
AreRound b digest number = (position_or_len is_dot b < length b) × (digest ≡ before_first is_dot b) × (number ≡ after_first is_dot b)

pub converter_then : (name : List ℕ) {b digest bytes : List ℕ} (number : List ℕ) {first second : Bool}
    → b ≡ base name → AreRound b digest number → bytes ≡ digest
    → first ≡ (eqb (length bytes) 64 && list_all is_lower_hex_digit bytes) → first ≡ true → second ≡ is_occurrence number → second ≡ is_converter_name name
converter_then name {b} number eb cut es e1 t e2 = grind (arith, converter_cut b cut.0)

pub converter_else : (name : List ℕ) {b digest bytes : List ℕ} (number : List ℕ) {first : Bool} → b ≡ base name → AreRound b digest number → bytes ≡ digest
    → first ≡ (eqb (length bytes) 64 && list_all is_lower_hex_digit bytes) → first ≡ false → first ≡ is_converter_name name
converter_else name {b} number eb cut es e1 f = grind (arith, converter_cut b cut.0)

pub converter_none : (name : List ℕ) {b : List ℕ} → b ≡ base name → position_or_len is_dot b ≡ length b → false ≡ is_converter_name name
converter_none name {b} eb none = rw (← eb) (converter_uncut b none)

-- no byte of a text is a colon
abbrev pub NoColon : List ℕ → Type 0
NoColon text = (k : ℕ) → k < length text → is_colon (get_or text k 0) ≡ false

-- a text without a colon is its own base, and the base of the text with a colon after it
pub base-own : (b : List ℕ) → NoColon b → base b ≡ b
unfolding base
base-own b h = grind (arith, position_or_len_is is_colon b (length b) 0, take_all (length b) b)

pub base-info : (b info : List ℕ) → NoColon b → base (b ++ 58 ∷ info) ≡ b
unfolding base
base-info b info h = grind (
  arith,
  length-append b (58 ∷ info),
  position_or_len_is is_colon (b ++ 58 ∷ info) (length b) 0,
  get_or_append_left b (58 ∷ info) 0,
  get_or_at b 58 info 0 (length b),
  take_at b (58 ∷ info) (length b),
)

-- this converter's bases have no colon
pub converter-NoColon : (b : List ℕ) → IsConverterBase b → NoColon b
unfolding is_occurrence
converter-NoColon b h k l =
    let p = parts_of b h in
    elim (cases_order k 64) [
      | inl e ↦ rw (e, p.dot) refl
      | inr (inl low) ↦ ne_eqb (get_or b k 0) 58 (hex_is_not (get_or b k 0) 58 (parts_digit p k low) refl)
      | inr (inr high) ↦
          let text = drop 65 b in
          let outer = and_parts (all_ascii_digits text && leb 49 (get_or text 0 0)) (leb (digits_value 10 text) 18446744073709551615) p.number in
          let inner = and_parts (all_ascii_digits text) (leb 49 (get_or text 0 0)) outer.0 in
          let place : 65 + (k - 65) ≡ k = omega arith in
          let read = rw place at (get_or-drop 65 b (k - 65) 0) in
          let n : IsInRange 48 57 58 → ⊥ = λ r. (let top = r.1 in omega (arith, top)) in
          ne_eqb (get_or b k 0) 58 (λ e. not_in_digits own text 58 inner.0 n (k - 65) (omega (arith, length-drop 65 b)) (read ∙ e))
    ]

-- the base of this converter's base is itself
pub base-converter : (b : List ℕ) → IsConverterBase b → base b ≡ b
base-converter b h = base-own b (converter-NoColon b h)
