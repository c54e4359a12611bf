-- The flags of a message: what the header fields Status and X-Status of its body say.
use Rattle.std.specs.Prelude.{ℕ, ◌==◌, Bool, ◌||◌, not, List, [], ◌∷◌, length, take, drop, find, take_while, unwrap_or, codes, if◌then◌else◌}
use Rattle.std.specs.List.{list_any}
use Rattle.std.specs.Str.{bytes_eq, str_eq_ignore_ascii_case}
use Rattle.maildir_name.specs.declared.flags.Flags.{Flags}

-- the lines, with the byte c before the first of them
abbrev pub onto_first_line : ℕ → List (List ℕ) → List (List ℕ)
onto_first_line c [] = (c ∷ []) ∷ []
onto_first_line c (line ∷ lines) = (c ∷ line) ∷ lines

-- the lines of a text: each ends with its only `\n`, which the last may lack (RFC 4155, appendix A)
unfoldable pub lines : List ℕ → List (List ℕ)
lines [] = []
lines (c ∷ text) = if c == 10 then (10 ∷ []) ∷ lines text else onto_first_line c (lines text)

-- whether a line is `\n` or `\r\n` alone
abbrev pub is_blank : List ℕ → Bool
is_blank line = bytes_eq line (10 ∷ []) || bytes_eq line (13 ∷ 10 ∷ [])

-- the header of a body: its lines before the first blank one, or all of them (this project's own rule)
unfoldable pub header : List ℕ → List (List ℕ)
header body = take_while (λ line. not (is_blank line)) (lines body)

-- whether a line begins with a field's name, letters in either case
abbrev pub begins_with_name : List ℕ → List ℕ → Bool
begins_with_name name line = str_eq_ignore_ascii_case (take (length name) line) name

-- what follows the name in the first line that begins with it, or nothing: the line alone, not its continuation (this project's own rule)
unfoldable pub field : List ℕ → List (List ℕ) → List ℕ
field name lines = drop (length name) (unwrap_or (find (begins_with_name name) lines) [])

-- the field Status of a body
abbrev pub status_field : List ℕ → List ℕ
status_field body = field (codes "Status:") (header body)

-- the field X-Status of a body
abbrev pub x_status_field : List ℕ → List ℕ
x_status_field body = field (codes "X-Status:") (header body)

-- whether a letter occurs in a field
abbrev pub stands_in : List ℕ → ℕ → Bool
stands_in text letter = list_any (λ c. c == letter) text

-- whether a letter occurs in one of the two fields
abbrev pub has_letter : List ℕ → ℕ → Bool
has_letter body letter = stands_in (status_field body) letter || stands_in (x_status_field body) letter

-- the flags of a body: `O` old, `F` flagged, `A` replied, `R` seen, `D` trashed (this project's own table, after the documentation of Python's module mailbox)
unfoldable pub flags : List ℕ → Flags
flags body = record {
  is_old = has_letter body 79;
  flagged = has_letter body 70;
  replied = has_letter body 65;
  seen = has_letter body 82;
  trashed = has_letter body 68;
}
