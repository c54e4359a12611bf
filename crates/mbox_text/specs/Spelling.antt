-- How a message is written (mbox(5)).
use Rattle.std.specs.Prelude.{ℕ, ◌==◌, List, [], ◌∷◌, ◌++◌, if◌then◌else◌}
use Rattle.std.specs.List.{flat_map}
use Rattle.mbox_text.specs.declared.entry.Entry.{Entry}
use Rattle.mbox_text.specs.FromLine.{IsFromLine}
use Rattle.mbox_text.specs.Lines.{lines}
use Rattle.mbox_text.specs.Quoting.{quoted}

-- the `\n` that a body lacks at its end: none if it is empty or ends with one
unfoldable pub missing_end : List ℕ → List ℕ
missing_end [] = []
missing_end (c ∷ []) = if c == 10 then [] else 10 ∷ []
missing_end (c ∷ d ∷ body) = missing_end (d ∷ body)

-- the regular spelling: the From_ line, the quoted lines of the body, the `\n` that it lacks, and a blank line (mbox(5))
unfoldable pub spelling : Entry → List ℕ
spelling entry =
    entry.from_line ++ 10 ∷ (flat_map quoted (lines entry.body) ++ (missing_end entry.body ++ 10 ∷ []))

-- the message with the `\n` that its body lacks at its end, which its spelling adds
unfoldable pub completed : Entry → Entry
completed entry = record entry { body = entry.body ++ missing_end entry.body }

-- each entry has a From_ line
abbrev pub FromLines : List Entry → Type 0
FromLines [] = Unit {0}
FromLines (entry ∷ entries) = IsFromLine entry.from_line × FromLines entries
