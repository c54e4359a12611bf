-- The bases of targets: their parts, and that they are this converter's.
use Rattle.std.proofs.Common.{◌≡◌, ℕ, zero, suc, ◌+◌, ◌^◌, ◌<◌, true, List, [], ◌∷◌, ◌++◌, length, take, rules}
use Rattle.std.proofs.Common.{drop, slice_index, refl, sym, ◌∙◌, ap, arith, decimal, append_assoc, lit<}
use Rattle.std.specs.List.{list_all}
use Rattle.std.specs.Int.{byte_at, bytes_high_first}
use Rattle.std.proofs.lemmas.Bool.{and_from, le-leb, cases_Bool}
use Rattle.std.proofs.lemmas.Fmt.{digits_decimal, digits_value-decimal, first_decimal, decimal_injective}
use Rattle.std.proofs.lemmas.List.{take_at, drop_at, get_or_at, length_push}
use Rattle.sha2.specs.Sha256.{sha256, digest_bytes}
use Rattle.sha2.proofs.Facts256.{length-sha256}
use Rattle.hex.specs.Hex.{encode_with, lower_digits, IsBytes}
use Rattle.hex.proofs.HexLemmas.{length-encode_with, decode_of-encode_lower}
use Rattle.maildir_name.specs.declared.flags.Flags.{Flags}
use Rattle.maildir_name.specs.declared.target.Target.{Target}
use Rattle.maildir_name.specs.Names.{base, is_lower_hex_digit, is_occurrence, is_converter_base, IsConverterBase}
use Rattle.maildir_name.specs.Targets.{digest_text, numbered, is_marked, under_flags}
use Rattle.maildir_name.proofs.NameLemmas.{own, NoColon, base-own, base-info, converter-NoColon}

-- each number in the list is below 256
abbrev pub AllBytes : List ℕ → Type 0
AllBytes [] = Unit {0}
AllBytes (b ∷ bytes) = (b < 256) × AllBytes bytes

bytes-append : (a b : List ℕ) → AllBytes a → AllBytes b → AllBytes (a ++ b)
bytes-append [] b h g = g
bytes-append (x ∷ a) b h g = (h.0, bytes-append a b h.1 g)

byte_at-lt : (k n : ℕ) → byte_at k n < 256
byte_at-lt zero n = omega arith
byte_at-lt (suc k) n = omega arith

bytes-high_first : (k n : ℕ) → AllBytes (bytes_high_first k n)
bytes-high_first zero n = tt
bytes-high_first (suc k) n = (byte_at-lt k n, bytes-high_first k n)

bytes-digest_bytes : (h : List ℕ) (n : ℕ) → AllBytes (digest_bytes h n)
unfolding digest_bytes
bytes-digest_bytes h zero = tt
bytes-digest_bytes h (suc n) = grind (arith, bytes-append, bytes-high_first, bytes-digest_bytes h n)

-- each number of a digest is below 256
pub bytes-sha256 : (body : List ℕ) → AllBytes (sha256 body)
unfolding sha256
bytes-sha256 body = grind (arith, bytes-digest_bytes)

pub IsBytes-AllBytes : (bytes : List ℕ) → AllBytes bytes → IsBytes bytes
IsBytes-AllBytes [] h i = lit< tt
IsBytes-AllBytes (b ∷ bytes) h zero = h.0
IsBytes-AllBytes (b ∷ bytes) h (suc i) = IsBytes-AllBytes bytes h.1 i

digit_is : (d : ℕ) → d < 16 → is_lower_hex_digit (slice_index lower_digits d) ≡ true
digit_is d h = grind (arith)

-- the hexadecimal spelling of bytes is digits
digits-encode : (bytes : List ℕ) → AllBytes bytes → list_all is_lower_hex_digit (encode_with lower_digits bytes) ≡ true
unfolding encode_with
digits-encode [] h = refl
digits-encode (b ∷ bytes) h = grind (arith, digits-encode bytes h.1, digit_is)

pub length-digest_text : (body : List ℕ) → length (digest_text body) ≡ 64
length-digest_text body = grind (arith, length-encode_with, length-sha256)

-- the parts of a base
pub numbered-digits : (body : List ℕ) (n : ℕ) → take 64 (numbered body n) ≡ digest_text body
numbered-digits body n = search (rules, take_at, length-digest_text)

pub numbered-number : (body : List ℕ) (n : ℕ) → drop 65 (numbered body n) ≡ decimal n
numbered-number body n =
    let dot = append_assoc (digest_text body) (46 ∷ []) (decimal n) in
    let len : length (digest_text body ++ 46 ∷ []) ≡ 65 = length_push (digest_text body) 46 ∙ ap (λ k. k + 1) (length-digest_text body) in
    rw (sym dot) (drop_at (digest_text body ++ 46 ∷ []) (decimal n) 65 len)

-- the decimal spelling of a number is an occurrence number
pub occurrence-decimal : (n : ℕ) → 0 < n → n < 2 ^ 64 → is_occurrence (decimal n) ≡ true
unfolding is_occurrence
occurrence-decimal n some small = grind (arith, digits_value-decimal, own, decimal, and_from, digits_decimal, le-leb, first_decimal)

-- a base with a number of 64 bits is this converter's
pub numbered-converter : (body : List ℕ) (n : ℕ) → 0 < n → n < 2 ^ 64 → IsConverterBase (numbered body n)
unfolding is_converter_base
numbered-converter body n some small =
    grind (arith, get_or_at, decimal, length-digest_text, numbered-digits, digits-encode, bytes-sha256, numbered-number, occurrence-decimal)

-- equal bases have equal digests and numbers
pub same-digest : (a b : List ℕ) (m n : ℕ) → numbered a m ≡ numbered b n → sha256 a ≡ sha256 b
same-digest a b m n e = grind (
  arith,
  numbered-digits a m,
  numbered-digits b n,
  decode_of-encode_lower (sha256 a) (IsBytes-AllBytes (sha256 a) (bytes-sha256 a)),
  decode_of-encode_lower (sha256 b) (IsBytes-AllBytes (sha256 b) (bytes-sha256 b)),
)

pub same-number : (a b : List ℕ) (m n : ℕ) → m < 2 ^ 64 → n < 2 ^ 64 → numbered a m ≡ numbered b n → m ≡ n
same-number a b m n small small' e = grind (arith, decimal_injective, numbered-number)

-- the target of a base has that base, and so has its name
pub under_flags-base : (b : List ℕ) (f : Flags) → (under_flags b f).base ≡ b
under_flags-base b f = grind (arith, cases_Bool (is_marked f))

pub under_flags-name : (b : List ℕ) (f : Flags) → NoColon b → base (under_flags b f).name ≡ b
under_flags-name b f h = grind (arith, cases_Bool, base-info, base-own)

-- a target whose base is this converter's
pub record IsNamed (t : Target) : Type 0 where
  pub converter : IsConverterBase t.base
  pub own_base : base t.base ≡ t.base
  pub same_base : base t.name ≡ t.base

pub named-under_flags : (t : Target) (b : List ℕ) (f : Flags) → t ≡ under_flags b f → IsConverterBase b → IsNamed t
named-under_flags t b f e h = grind (arith, under_flags-base, under_flags-name, converter-NoColon, base-own)
