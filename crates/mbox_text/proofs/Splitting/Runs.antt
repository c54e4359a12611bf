-- Whole lines that are added to a body, unquoted.
use Rattle.mbox_text.proofs.Common.{◌≡◌, ℕ, ◌+◌, ◌-◌, ◌≤◌, true, false, Some, eqb, List, [], ◌∷◌, ◌++◌, length, rules, flat_map, append-nil, take-append-drop}
use Rattle.mbox_text.proofs.Common.{take, drop, refl, sym, ◌∙◌, ap, arith, append_assoc, inr, take-add, concat, false_from_ne_true, both_ways, cases_Bool}
use Rattle.mbox_text.proofs.Common.{take_rest, length-drop, flat_map-append, IsFirstByte, is_byte, lines, Ended, unquoted, quotable, begins_from, NoneQuotable}
use Rattle.mbox_text.proofs.Common.{FirstQuotable, NoFrom}
use Rattle.mbox_text.proofs.TextLines.LineLemmas.{lines-append, lines-line, concat-lines, begins_from-more, unquoted-other}
use Rattle.mbox_text.proofs.Splitting.HeldLemmas.{NoFrom-append, Ended-append}
use Rattle.mbox_text.proofs.TextLines.LineEnds.{line-there}

-- a text begins with what its prefix begins with
pub begins_from-take : (text : List ℕ) (n : ℕ) → begins_from (take n text) ≡ true → begins_from text ≡ true
begins_from-take text n b = grind (arith, take-append-drop n text, begins_from-more)

pub NoneQuotable-append : (a b : List (List ℕ)) → NoneQuotable a → NoneQuotable b → NoneQuotable (a ++ b)
NoneQuotable-append [] b h h' = h'
NoneQuotable-append (l ∷ a) b h h' = (h.0, NoneQuotable-append a b h.1 h')

none-prefix : (a b : List (List ℕ)) → NoneQuotable (a ++ b) → NoneQuotable a
none-prefix [] b h = tt
none-prefix (l ∷ a) b h = (h.0, none-prefix a b h.1)

-- a line that begins with `From ` is quotable
from-quotable : (line : List ℕ) → quotable line ≡ false → begins_from line ≡ false
unfolding quotable begins_from
from-quotable [] q = refl
from-quotable (c ∷ line) q = grind (arith, cases_Bool (eqb c 62))

none-from : (ls : List (List ℕ)) → NoneQuotable ls → NoFrom ls
none-from [] n = tt
none-from (l ∷ ls) n = (from-quotable l n.0, none-from ls n.1)

none-unquoted : (ls : List (List ℕ)) → NoneQuotable ls → flat_map unquoted ls ≡ concat ls
none-unquoted [] n = refl
none-unquoted (l ∷ ls) n = rw (unquoted-other l n.0, none-unquoted ls n.1) refl

-- the lines of the text up to this place have been added unquoted, and none is a From_ line
pub record LinesTaken (text before body : List ℕ) (at : ℕ) : Type 0 where
  pub within : at ≤ length text
  pub added : body ≡ before ++ flat_map unquoted (lines (take at text))
  pub ended : Ended (take at text)
  pub none : NoFrom (lines (take at text))

pub taken_none : {text before : List ℕ} → LinesTaken text before before 0
unfolding lines
taken_none {before} = grind (arith, append-nil before)

taken_more : {text before body body' : List ℕ} {at n : ℕ} → LinesTaken text before body at → n ≤ length (drop at text) → Ended (take n (drop at text))
    → NoFrom (lines (take n (drop at text))) → body' ≡ body ++ flat_map unquoted (lines (take n (drop at text))) → LinesTaken text before body' (at + n)
taken_more {text} {before} {at} {n} t le ends none is = grind (
  arith,
  length-drop,
  take-add,
  lines-append (take n (drop at text)) t.ended,
  flat_map-append unquoted (lines (take at text)) (lines (take n (drop at text))),
  append_assoc before (flat_map unquoted (lines (take at text))) (flat_map unquoted (lines (take n (drop at text)))),
  Ended-append t.ended ends,
  NoFrom-append,
)

-- lines of which none is quotable are added as they stand
taken_plain : {text before body body' : List ℕ} {at n : ℕ} → LinesTaken text before body at → n ≤ length (drop at text) → Ended (take n (drop at text))
    → NoneQuotable (lines (take n (drop at text))) → body' ≡ body ++ take n (drop at text) → LinesTaken text before body' (at + n)
taken_plain {text} {body} {at} {n} t le ends none is = search (rules, none-unquoted, concat-lines, taken_more, none-from)

-- the lines before the first quotable one, cut as the code cuts them
pub taken_found : {text before body body' : List ℕ} {at n : ℕ} → LinesTaken text before body at → FirstQuotable (take (length text - at) (drop at text)) n
    → body' ≡ body ++ take ((at + n) - at) (drop at text) → LinesTaken text before body' (at + n)
taken_found {text} {at} {n} t first is =
    let f = rw (take_rest text at) at first in
    let size : (at + n) - at ≡ n = omega arith in
    taken_plain t (omega (arith, f.within)) f.ended f.none (rw size at is)

-- the whole lines of a text of which no line is quotable
pub taken_rest : {text before body body' : List ℕ} {at n : ℕ} → let rest : List ℕ = take (length text - at) (drop at text) in
    LinesTaken text before body at → n ≤ length rest → Ended (take n rest) → NoneQuotable (lines rest)
    → body' ≡ body ++ take ((at + n) - at) (drop at text) → LinesTaken text before body' (at + n)
taken_rest {text} {at} {n} t le ends none is =
    let D = drop at text in
    let size : (at + n) - at ≡ n = omega arith in
    let ended = rw (take_rest text at) at ends in
    let parts = ap lines (sym (take-append-drop n D)) ∙ lines-append (drop n D) ended in
    let all = rw (take_rest text at) at none in
    taken_plain t (rw (take_rest text at) at le) ended (none-prefix _ _ (rw parts at all)) (rw size at is)

-- one whole line that begins no message
pub taken_line : {text before body body' : List ℕ} {at n : ℕ} → let line : List ℕ = take (length text - at) (drop at text) in
    LinesTaken text before body at → IsFirstByte (is_byte 10) line (Some n) → begins_from line ≡ false
    → body' ≡ body ++ unquoted (take (n + 1) line) → LinesTaken text before body' (at + (n + 1))
unfolding lines
taken_line {text} {at} {n} t found none is =
    let D = drop at text in
    let x = take (n + 1) D in
    let h = line-there (rw (take_rest text at) at found) in
    let one : lines x ≡ x ∷ [] = rw h.is (lines-line _ [] h.part) in
    let plain : begins_from x ≡ false =
    false_from_ne_true (begins_from x) (λ b. both_ways (begins_from D) (rw (take_rest text at) at none) (begins_from-take D (n + 1) b)) in
    taken_more t (omega (arith, h.within)) (inr (take n D, h.is)) (rw one (plain, tt))
    (rw (take_rest text at) at is ∙ rw (one, append-nil (unquoted x)) refl)
