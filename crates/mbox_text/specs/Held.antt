-- What a splitter keeps in memory of the text so far; no caller need read it.
use Rattle.std.specs.Prelude.{◌≡◌, ℕ, true, false, List, [], ◌∷◌, ◌++◌, ◌⊎◌, Option, Some, None, IsTrue}
use Rattle.std.specs.List.{flat_map}
use Rattle.mbox_text.specs.declared.entry.Entry.{Entry}
use Rattle.mbox_text.specs.declared.partial_message.PartialMessage.{PartialMessage}
use Rattle.mbox_text.specs.declared.splitter.Splitter.{Splitter}
use Rattle.mbox_text.specs.Lines.{lines, Ended, NoEnd}
use Rattle.mbox_text.specs.Quoting.{begins_with, begins_from, from_bytes, unquoted}
use Rattle.mbox_text.specs.Mbox.{NoFrom, Block}

-- the text is one block for each entry, in order, and each block ends with `\n`
unfoldable pub Closed : List ℕ → List Entry → Type 0
Closed text [] = text ≡ []
Closed text (entry ∷ entries) = (block rest : List ℕ) × (text ≡ block ++ rest) × Block block entry × Ended block × Closed rest entries

-- the block is this From_ line and complete lines, which read as this body
pub record Open (block from_line body : List ℕ) : Type 0 where
  pub others : List ℕ
  pub is : block ≡ from_line ++ 10 ∷ others
  pub head : begins_from from_line ≡ true
  pub line : NoEnd from_line
  pub ended : Ended others
  pub tail : NoFrom (lines others)
  pub as_read : body ≡ flat_map unquoted (lines others)

-- the text is the blocks of the returned messages, and then the start of a From_ line
pub record AtHead (text : List ℕ) (given : List Entry) (line : List ℕ) : Type 0 where
  pub prefix : List ℕ
  pub is : text ≡ prefix ++ line
  pub closed : Closed prefix given
  pub part : NoEnd line
  pub head : (begins_from line ≡ true) ⊎ ((given ≡ []) × (begins_with line from_bytes ≡ true))

-- the text is the blocks of the returned messages, then a From_ line and complete lines, and then the start of a line that begins no message
pub record InBody (text : List ℕ) (given : List Entry) (from_line body line : List ℕ) : Type 0 where
  pub prefix : List ℕ
  pub block : List ℕ
  pub is : text ≡ prefix ++ (block ++ line)
  pub closed : Closed prefix given
  pub opened : Open block from_line body
  pub part : NoEnd line
  pub tail : begins_from line ≡ false

-- the text is the returned messages and what these two fields of a splitter hold
abbrev pub Held : List ℕ → List Entry → Option PartialMessage → List ℕ → Type 0
Held text given None line = AtHead text given line
Held text given (Some message) line = InBody text given message.from_line.items message.body.items line

-- an earlier feed failed
abbrev pub HasFailed : Splitter → Type 0
HasFailed splitter = IsTrue splitter.failed

-- the text is the returned messages and what the splitter holds
abbrev pub HeldIn : List ℕ → List Entry → Splitter → Type 0
HeldIn text given splitter = Held text given splitter.message splitter.line.items
