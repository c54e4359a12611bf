-- How a splitter changes with a part of the text: it moves on, or refuses the part.
use Rattle.std.specs.Prelude.{◌≡◌, ℕ, ◌==◌, Bool, true, ◌&&◌, List, [], ◌∷◌, ◌++◌, if◌then◌else◌}
use Rattle.mbox_text.specs.declared.entry.Entry.{Entry}
use Rattle.mbox_text.specs.declared.fault.TextFault.{TextFault}
use Rattle.mbox_text.specs.declared.fault.TextFault.TheVariants.{NoFromLine, OutOfMemory}
use Rattle.mbox_text.specs.declared.splitter.Splitter.{Splitter}
use Rattle.mbox_text.specs.Prefixes.{NeverFrom}
use Rattle.mbox_text.specs.Held.{HeldIn}

-- the text without its last line if that is `\n` alone; the flag says whether the text starts at the beginning of a line
unfoldable pub chopped_from : Bool → List ℕ → List ℕ
chopped_from at_start [] = []
chopped_from at_start (c ∷ []) = if at_start && c == 10 then [] else c ∷ []
chopped_from at_start (c ∷ d ∷ text) = c ∷ chopped_from (c == 10) (d ∷ text)

-- the text without its last line if that is `\n` alone
abbrev pub chopped : List ℕ → List ℕ
chopped text = chopped_from true text

-- whatever text came before, the splitter has moved on over this part of it, and returned these messages
abbrev pub Moves : Splitter → List ℕ → List Entry → Splitter → Type 0
Moves old part added new = (text : List ℕ) (given : List Entry) → HeldIn text given old → HeldIn (text ++ part) (given ++ added) new

-- the splitter moves on, and appends its messages to these
abbrev pub Gives : Splitter → List ℕ → List Entry → List Entry → Splitter → Type 0
Gives old part out out' new = (added : List Entry) × (out' ≡ out ++ added) × Moves old part added new

-- why the splitter refuses a part: no mbox text begins with the text so far and this part, and no message was returned; or an allocation failed
abbrev pub Refuses : TextFault → Splitter → List ℕ → Type 0
Refuses NoFromLine splitter part = (text : List ℕ) (given : List Entry) → HeldIn text given splitter → (given ≡ []) × NeverFrom (text ++ part)
Refuses OutOfMemory splitter part = Unit {0}
Refuses _ splitter part = ⊥

-- why the splitter refuses a piece: it moved on over a prefix of the piece, and refuses the rest
pub record Stops (fault : TextFault) (old : Splitter) (piece : List ℕ) (out out' : List Entry) : Type 0 where
  pub prefix : List ℕ
  pub rest : List ℕ
  pub now : Splitter
  pub is : piece ≡ prefix ++ rest
  pub gives : Gives old prefix out out' now
  pub refuses : Refuses fault now rest
