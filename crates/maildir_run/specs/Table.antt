-- The table that is written of a text: one row a message (this project's own rule).
use Rattle.std.specs.Prelude.{ℕ, ◌+◌, ◌&&◌, nat_le, nat_lt, List, [], ◌∷◌, ◌++◌, codes, if◌then◌else◌, length, map}
use Rattle.std.specs.List.{after_first, position_or_len}
use Rattle.std.specs.Fmt.{decimal}
use Rattle.mbox_text.specs.declared.entry.Entry.{Entry}
use Rattle.mbox_text.specs.FromLine.{sender}
use Rattle.maildir_name.specs.declared.target.Target.{Target}
use Rattle.maildir_name.specs.Names.{is_colon}
use Rattle.maildir_name.specs.Targets.{targets}
use Rattle.maildir_run.specs.Folders.{folder_name, folder_of_place}

-- what follows the first colon of a name, or a hyphen if it has none
abbrev pub info : List ℕ → List ℕ
info name = if nat_lt (position_or_len is_colon name) (length name) then after_first is_colon name else codes "-"

-- a byte of a sender: `?` for one outside 0x21 to 0x7E
abbrev pub shown_byte : ℕ → ℕ
shown_byte c = if nat_le 33 c && nat_le c 126 then c else 63

-- the sender of a From_ line, or a hyphen if it is empty
abbrev pub shown_sender : List ℕ → List ℕ
shown_sender [] = codes "-"
shown_sender (c ∷ sender) = map shown_byte (c ∷ sender)

-- the row of a message: its index, base, place, info, the body's length in bytes, and the sender
unfoldable pub message_row : ℕ → Entry → Target → List ℕ
message_row index entry target =
    decimal index ++ 32
    ∷ (target.base ++ 32
    ∷ (folder_name (folder_of_place target.place) ++ 32
    ∷ (info target.name ++ 32
    ∷ (decimal (length entry.body) ++ 32
    ∷ (shown_sender (sender entry.from_line) ++ 10
    ∷ [])))))

-- the rows of some messages with their targets, counted from an index
unfoldable pub rows_from : ℕ → List Entry → List Target → List ℕ
rows_from index [] ts = []
rows_from index (entry ∷ entries) [] = []
rows_from index (entry ∷ entries) (target ∷ ts) = message_row index entry target ++ rows_from (index + 1) entries ts

-- the table of the messages of a text
unfoldable pub table_of : List Entry → List ℕ
table_of entries = rows_from 1 entries (targets (map (λ entry. entry.body) entries))
