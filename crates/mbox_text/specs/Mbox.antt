-- The messages of an mbox text (mbox(5)).
use Rattle.std.specs.Prelude.{◌≡◌, ℕ, ◌==◌, false, true, List, [], ◌∷◌, ◌++◌, ◌⊎◌, if◌then◌else◌}
use Rattle.std.specs.List.{flat_map}
use Rattle.mbox_text.specs.declared.entry.Entry.{Entry}
use Rattle.mbox_text.specs.Lines.{lines, Ended}
use Rattle.mbox_text.specs.Quoting.{begins_from, unquoted}

-- the line as a list of lines, without it if it is `\n` alone
abbrev pub kept : List ℕ → List (List ℕ)
kept [] = []
kept (c ∷ []) = if c == 10 then [] else (c ∷ []) ∷ []
kept (c ∷ d ∷ l) = (c ∷ d ∷ l) ∷ []

-- the lines without the last of them if that is `\n` alone: the blank line that ends a message (mbox(5))
unfoldable pub without_blank : List (List ℕ) → List (List ℕ)
without_blank [] = []
without_blank (l ∷ []) = kept l
without_blank (l ∷ m ∷ ls) = l ∷ without_blank (m ∷ ls)

-- no line begins with `From `
abbrev pub NoFrom : List (List ℕ) → Type 0
NoFrom [] = Unit {0}
NoFrom (l ∷ ls) = (begins_from l ≡ false) × NoFrom ls

-- a line without its `\n`
abbrev pub unended : List ℕ → List ℕ
unended [] = []
unended (c ∷ l) = if c == 10 then [] else c ∷ unended l

-- The block is that of this message. Its first line is the From_ line, and no other line begins a message. The other lines, unquoted
-- and without the blank line at their end, are the body. No blank line is needed before a From_ line (mbox(5)).
pub record Block (block : List ℕ) (entry : Entry) : Type 0 where
  pub first : List ℕ
  pub others : List (List ℕ)
  pub is : lines block ≡ first ∷ others
  pub head : begins_from first ≡ true
  pub tail : NoFrom others
  pub from_line : entry.from_line ≡ unended first
  pub body : entry.body ≡ flat_map unquoted (without_blank others)

-- the text is one block for each entry, in order, and each but the last ends with `\n` (mbox(5))
unfoldable pub Mbox : List ℕ → List Entry → Type 0
Mbox text [] = text ≡ []
Mbox text (entry ∷ entries) =
    (block rest : List ℕ)
    × (text ≡ block ++ rest)
    × Block block entry
    × (Ended block ⊎ (entries ≡ []))
    × Mbox rest entries

-- The text is empty or begins with `From `; no other text has a list of messages. This is the project's own rule: bytes
-- before the first From_ line belong to no message.
abbrev pub IsMboxText : List ℕ → Type 0
IsMboxText text = (text ≡ []) ⊎ (begins_from text ≡ true)

-- the text has no list of messages
abbrev pub IsUnreadable : List ℕ → Type 0
IsUnreadable text = (entries : List Entry) → ¬ Mbox text entries
