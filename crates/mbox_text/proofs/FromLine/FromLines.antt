-- The messages of a text have their From_ lines.
use Rattle.mbox_text.proofs.Common.{◌≡◌, ℕ, true, List, [], ◌∷◌, ◌++◌, refl, eqb-true, zero, suc, ◌<◌, length, get_or, arith, cases_Bool, Entry, IsFromLine}
use Rattle.mbox_text.proofs.Common.{Block, unended, Mbox, FromLines, NoEnd, begins_with, begins_from}

unended-no_end : (l : List ℕ) → NoEnd (unended l)
unended-no_end [] = tt
unended-no_end (c ∷ l) = grind (arith, cases_Bool, unended-no_end l)

begins_with-unended : (prefix l : List ℕ) → NoEnd prefix → begins_with prefix (unended l) ≡ begins_with prefix l
begins_with-unended [] l h = refl
begins_with-unended (p ∷ prefix) [] h = refl
begins_with-unended (p ∷ prefix) (c ∷ l) h = grind (arith, cases_Bool, eqb-true, begins_with-unended prefix l h.1)

unended-from : (l : List ℕ) → begins_from l ≡ true → begins_from (unended l) ≡ true
unfolding begins_from
unended-from l b = grind (arith, begins_with-unended)

block-from_line : {block : List ℕ} {e : Entry} → Block block e → IsFromLine e.from_line
block-from_line b = grind (arith, unended-from, unended-no_end)

pub mbox-from_lines : (text : List ℕ) (entries : List Entry) → Mbox text entries → FromLines entries
unfolding Mbox
mbox-from_lines text [] h = tt
mbox-from_lines text (e ∷ es) h = (block-from_line h.3, mbox-from_lines h.1 es h.5)

pub from_lines-after : (prefix after : List Entry) → FromLines (prefix ++ after) → FromLines after
from_lines-after [] after h = h
from_lines-after (e ∷ prefix) after h = from_lines-after prefix after h.1

pub from_lines-before : (prefix after : List Entry) → FromLines (prefix ++ after) → FromLines prefix
from_lines-before [] after h = tt
from_lines-before (e ∷ prefix) after h = (h.0, from_lines-before prefix after h.1)

-- each entry has its From_ line
pub from_line-at : (entries : List Entry) (i : ℕ) (d : Entry) → FromLines entries → i < length entries → IsFromLine (get_or entries i d).from_line
from_line-at [] i d h l = absurd (omega arith)
from_line-at (e ∷ es) zero d h l = h.0
from_line-at (e ∷ es) (suc i) d h l = from_line-at es i d h.1 (omega arith)
