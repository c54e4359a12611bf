-- The last message of a text.
use Rattle.mbox_text.proofs.Common.{◌≡◌, ℕ, true, List, [], ◌∷◌, ◌++◌, refl, append_assoc, append-nil, arith, false≢true, Entry, NoEnd, unquoted, begins_from}
use Rattle.mbox_text.proofs.Common.{Block, Mbox, unended, without_blank, chopped, Closed, AtHead, InBody}
use Rattle.mbox_text.proofs.TextLines.LineLemmas.{lines-part}
use Rattle.mbox_text.proofs.Splitting.HeldLemmas.{open-last}

pub closed-last : (prefix : List ℕ) (given : List Entry) {block : List ℕ} {e : Entry}
    → Closed prefix given → Block block e → Mbox (prefix ++ block) (given ++ e ∷ [])
unfolding Closed Mbox
closed-last prefix [] {block} h b = grind (arith, append-nil)
closed-last prefix (g ∷ given) {block} h b = grind (arith, closed-last h.1 given h.5 b, append_assoc)

pub closed-mbox : (prefix : List ℕ) (given : List Entry) → Closed prefix given → Mbox prefix given
unfolding Closed Mbox
closed-mbox prefix [] h = h
closed-mbox prefix (g ∷ given) h = grind (arith, closed-mbox h.1 given h.5)

pub unended-part : (l : List ℕ) → NoEnd l → unended l ≡ l
unended-part [] h = refl
unended-part (c ∷ l) h = rw (h.0, unended-part l h.1) refl

-- a From_ line with nothing after it
pub from-block : (line : List ℕ) {e : Entry} → NoEnd line → begins_from line ≡ true → e.from_line ≡ line → e.body ≡ [] → Block line e
unfolding without_blank begins_from
from-block [] h b ef eb = absurd (false≢true b)
from-block (c ∷ l) h b ef eb = grind (arith, lines-part c l h, unended-part (c ∷ l) h)

-- the last message of a text that ends in a From_ line, or after one
pub head-last : {text : List ℕ} {given : List Entry} {line : List ℕ} {e : Entry}
    → AtHead text given line → begins_from line ≡ true → e.from_line ≡ line → e.body ≡ []
    → Mbox text (given ++ e ∷ [])
head-last {given} {line} a b ef eb = grind (arith, closed-last, from-block)

pub body-last : {text : List ℕ} {given : List Entry} {f body line : List ℕ} {e : Entry}
    → InBody text given f body line → e.from_line ≡ f → e.body ≡ chopped (body ++ unquoted line)
    → Mbox text (given ++ e ∷ [])
body-last {given} {line} {e} a ef eb =
    rw a.is (closed-last a.prefix given a.closed (open-last line a.opened a.part a.tail ef eb))
