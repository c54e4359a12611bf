-- What a splitter has been fed, and which messages it has returned.
use Rattle.std.specs.Prelude.{◌≡◌, ℕ, ◌<◌, List, [], ◌++◌, ◌⊎◌, ◌↔◌, Option, Result, IsErrOf, IsNone, length, option_to_list}
use Rattle.mbox_text.specs.declared.entry.Entry.{Entry}
use Rattle.mbox_text.specs.declared.fault.TextFault.{TextFault}
use Rattle.mbox_text.specs.declared.fault.TextFault.TheVariants.{NoFromLine, Failed, OutOfMemory}
use Rattle.mbox_text.specs.declared.splitter.Splitter.{Splitter}
use Rattle.mbox_text.specs.Mbox.{Mbox}
use Rattle.mbox_text.specs.Prefixes.{AllButLast, NeverFrom}
use Rattle.mbox_text.specs.Held.{HasFailed, HeldIn}

-- The splitter was fed this text, no feed failed, and it has returned these messages.
-- A caller reads the first two fields; the third is for the splitter's own functions.
pub record Fed (text : List ℕ) (given : List Entry) (splitter : Splitter) : Type 0 where
  pub works : ¬ HasFailed splitter
  pub given_are : AllButLast text given
  pub held : HeldIn text given splitter

-- the splitter took the piece, whatever it was fed before, and the messages that it returned for it were appended to the first list
abbrev pub Takes : Splitter → List ℕ → List Entry → List Entry → Splitter → Type 0
Takes old piece out out' new =
    (added : List Entry) × (out' ≡ out ++ added)
    × ((text : List ℕ) (given : List Entry) → Fed text given old → Fed (text ++ piece) (given ++ added) new)

-- Whatever was fed before, no mbox text begins with it and this piece, and no message was appended.
abbrev pub NeverBegins : Splitter → List ℕ → List Entry → List Entry → Type 0
NeverBegins old piece out out' = (text : List ℕ) (given : List Entry) → Fed text given old → (out' ≡ out) × NeverFrom (text ++ piece)

-- Whatever the splitter was fed before, the messages that were added are a prefix of those that the piece would complete.
-- None was added if no mbox text begins with what was fed.
abbrev pub TakesPart : Splitter → List ℕ → List Entry → List Entry → Type 0
TakesPart old piece out out' =
    (added : List Entry) × (out' ≡ out ++ added)
    × ((text : List ℕ) (given : List Entry) → Fed text given old
    → ((all : List Entry) → AllButLast (text ++ piece) (given ++ all) → (rest : List Entry) × (all ≡ added ++ rest))
    × (NeverFrom (text ++ piece) → added ≡ []))

-- Whatever text was fed, its messages are those that were returned, and then this one. There is no such message exactly if the text is empty.
abbrev pub GivesLast : Splitter → Option Entry → Type 0
GivesLast splitter last =
    (text : List ℕ) (given : List Entry) → Fed text given splitter
    → Mbox text (given ++ option_to_list last) × (IsNone last ↔ (text ≡ []))

-- the text has bytes, and too few for `From `
abbrev pub IsTooShort : List ℕ → Type 0
IsTooShort text = (0 < length text) × (length text < 5)

-- whatever text the splitter was fed, its fault at the end is `NoFromLine` exactly if that text is too short
abbrev pub RefusesShort : Splitter → Result (Option Entry) TextFault → Type 0
RefusesShort splitter result = (text : List ℕ) (given : List Entry) → Fed text given splitter → IsErrOf result NoFromLine ↔ IsTooShort text

-- the faults of a splitter
abbrev pub IsSplitterFault : TextFault → Type 0
IsSplitterFault fault = (fault ≡ NoFromLine) ⊎ ((fault ≡ Failed) ⊎ (fault ≡ OutOfMemory))
