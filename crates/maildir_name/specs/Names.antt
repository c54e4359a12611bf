-- The names of files in a Maildir: the base of a name, and which names are this converter's.
use Rattle.std.specs.Prelude.{ℕ, ◌==◌, Bool, IsTrue, ◌&&◌, ◌||◌, nat_le, List, take, drop, slice_index}
use Rattle.std.specs.List.{before_first, list_all}
use Rattle.std.specs.Char.{is_ascii_digit}
use Rattle.std.specs.Str.{all_ascii_digits}
use Rattle.std.specs.Str.Parse.{digits_value}

-- whether a byte is the colon that ends a unique name ("Using maildir format")
abbrev pub is_colon : ℕ → Bool
is_colon c = c == 58

-- the unique name in a name: its text before the first colon, or all of it ("Using maildir format")
unfoldable pub base : List ℕ → List ℕ
base name = before_first is_colon name

-- whether a byte is one of `0` to `9` and `a` to `f`
abbrev pub is_lower_hex_digit : ℕ → Bool
is_lower_hex_digit c = is_ascii_digit c || (nat_le 97 c && nat_le c 102)

-- whether a text is a number from 1 to 18446744073709551615 in decimal, without leading zeros (this project's own rule)
unfoldable pub is_occurrence : List ℕ → Bool
is_occurrence text = all_ascii_digits text && nat_le 49 (slice_index text 0) && nat_le (digits_value 10 text) 18446744073709551615

-- whether a base is this converter's: 64 hexadecimal digits in lower case, a dot and an occurrence number (this project's own rule)
unfoldable pub is_converter_base : List ℕ → Bool
is_converter_base b = list_all is_lower_hex_digit (take 64 b) && slice_index b 64 == 46 && is_occurrence (drop 65 b)

-- whether a name is this converter's: its base is (this project's own rule)
abbrev pub is_converter_name : List ℕ → Bool
is_converter_name name = is_converter_base (base name)

-- a base is this converter's
abbrev pub IsConverterBase : List ℕ → Type 0
IsConverterBase b = IsTrue (is_converter_base b)
