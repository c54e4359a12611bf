-- What a prefix of a text says of the messages of the whole text.
use Rattle.std.specs.Prelude.{◌≡◌, ℕ, false, true, List, [], ◌∷◌, ◌++◌, ◌⊎◌}
use Rattle.mbox_text.specs.declared.entry.Entry.{Entry}
use Rattle.mbox_text.specs.Quoting.{begins_with, begins_from, from_bytes}
use Rattle.mbox_text.specs.Mbox.{Mbox}

-- the text neither begins with `From ` nor is a prefix of it, so no text with messages begins with it (this project's own rule)
abbrev pub NeverFrom : List ℕ → Type 0
NeverFrom text = (begins_from text ≡ false) × (begins_with text from_bytes ≡ false)

-- These are all messages of the text but the last, which may still grow (mbox(5): a message goes on up to the next From_
-- line). If the text is a prefix of `From `, there are none.
abbrev pub AllButLast : List ℕ → List Entry → Type 0
AllButLast text given =
    ((begins_from text ≡ true) × ((last : Entry) × Mbox text (given ++ last ∷ [])))
    ⊎ ((begins_with text from_bytes ≡ true) × (given ≡ []))

-- the first list is a proper prefix of the second
abbrev pub IsProperPrefix : List Entry → List Entry → Type 0
IsProperPrefix prefix entries = (next : Entry) × (rest : List Entry) × (entries ≡ prefix ++ next ∷ rest)
