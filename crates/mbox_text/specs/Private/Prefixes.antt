-- Messages that stay the same, whatever comes after the text.
use Rattle.std.specs.Prelude.{◌≡◌, ℕ, List, [], ◌++◌, ◌⊎◌}
use Rattle.mbox_text.specs.declared.entry.Entry.{Entry}
use Rattle.mbox_text.specs.Mbox.{Mbox}
use Rattle.mbox_text.specs.Prefixes.{IsProperPrefix}

-- whatever comes after the text, these messages are a proper prefix of those of the whole, or there are none
abbrev pub Stay : List ℕ → List Entry → Type 0
Stay text given = (more : List ℕ) (entries : List Entry) → Mbox (text ++ more) entries → (given ≡ []) ⊎ IsProperPrefix given entries
