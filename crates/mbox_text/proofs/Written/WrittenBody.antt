-- What is written of a body, part by part.
use Rattle.mbox_text.proofs.Common.{◌≡◌, ℕ, zero, suc, ◌+◌, ◌-◌, ◌≤◌, ◌<◌, Option, Result, true, false, eqb, List, [], ◌∷◌, ◌++◌, flat_map, eqb-true}
use Rattle.mbox_text.proofs.Common.{append-nil, take-append-drop, take_all, length, take, drop, get_or, refl, sym, ◌∙◌, ap, arith, append_assoc, inl, inr, ◌⊎◌}
use Rattle.mbox_text.proofs.Common.{take-add, concat, Appends, Appends-trans, Appends-nil, ne_eqb, eqb-false, take_more, take_rest, drop_all, drop-drop}
use Rattle.mbox_text.proofs.Common.{length-drop, nil_from_length, flat_map-append, lines, Ended, IsLine, NoneQuotable, FirstQuotable, quotable, quoted}
use Rattle.mbox_text.proofs.Common.{missing_end, AppendsPrefix, Writes}
use Rattle.mbox_text.proofs.TextLines.LineLemmas.{lines-append, concat-lines, quotable-cut, missing-ended, missing-part}
use Rattle.mbox_text.proofs.Splitting.HeldLemmas.{Ended-append}
use Rattle.mbox_text.proofs.Written.Appended.{prefix_then, wrote}

quotable-ended : {a : List ℕ} (x : List ℕ) → Ended a → 0 < length a → quotable (a ++ x) ≡ quotable a
quotable-ended x (inl e) l = absurd (omega (arith, ap length e))
quotable-ended x (inr e) l = grind (arith, append_assoc, quotable-cut)

quoted-marked : (line : List ℕ) → quotable line ≡ true → quoted line ≡ 62 ∷ line
unfolding quoted
quoted-marked line q = rw q refl

quoted-plain : {a : List ℕ} → quotable a ≡ false → quoted a ≡ a
unfolding quoted
quoted-plain n = rw n refl

prefix-length : (text : List ℕ) (n : ℕ) → 0 < n → n ≤ length text → 0 < length (take n text)
prefix-length [] n s l = absurd (omega arith)
prefix-length (c ∷ text) zero s l = absurd (omega arith)
prefix-length (c ∷ text) (suc n) s l = omega arith

-- whether a line is quotable does not depend on how the text goes on
pub quotable-line : {text : List ℕ} {n : ℕ} → IsLine text n → quotable (take n text) ≡ quotable text
quotable-line {text} {n} h = elim (h.ends) [
  | inl e ↦ ap quotable (take_all n text (omega (arith, e)))
  | inr e ↦ sym (quotable-ended (drop n text) e (prefix-length text n h.some h.within)) ∙ ap quotable (take-append-drop n text)
]

-- the part of the body that is written, up to this place
pub record WrittenTo (body : List ℕ) (old new : Option (List ℕ)) (at : ℕ) : Type 0 where
  pub within : at ≤ length body
  pub ends : (at ≡ length body) ⊎ Ended (take at body)
  pub written : Appends old new (flat_map quoted (lines (take at body)))

-- the first bytes are whole lines, and these bytes are written for them
pub record Part (text : List ℕ) (n : ℕ) (bytes : List ℕ) : Type 0 where
  pub within : n ≤ length text
  pub ends : (n ≡ length text) ⊎ Ended (take n text)
  pub is : flat_map quoted (lines (take n text)) ≡ bytes

-- lines that are not quotable are written as they stand
plain : (ls : List (List ℕ)) → NoneQuotable ls → flat_map quoted ls ≡ concat ls
plain [] n = refl
plain (l ∷ ls) n = rw (quoted-plain n.0, plain ls n.1) refl

pub found_part : (body : List ℕ) (at n : ℕ) → FirstQuotable (take (length body - at) (drop at body)) n
    → Part (drop at body) n (take ((at + n) - at) (drop at body))
found_part body at n found = grind (arith, take_rest, plain, concat-lines)

-- the quotable line that was found
pub line_part : (body : List ℕ) (at n len : ℕ) → FirstQuotable (take (length body - at) (drop at body)) n
    → IsLine (take (length body - (at + n)) (drop (at + n) body)) len
    → Part (drop (at + n) body) len (62 ∷ take (((at + n) + len) - (at + n)) (drop (at + n) body))
line_part body at n len found line = grind (arith, take_rest, quotable-line, drop-drop, append-nil, quoted-marked)

-- what is written of a text, with a first part split off
split-at : (text : List ℕ) {n : ℕ} → (n ≡ length text) ⊎ Ended (take n text)
    → flat_map quoted (lines text) ≡ flat_map quoted (lines (take n text)) ++ flat_map quoted (lines (drop n text))
unfolding lines
split-at text {n} (inl e) = grind (arith, take_all, drop_all, append-nil)
split-at text {n} (inr e) =
    grind (arith, take-append-drop n text, lines-append (drop n text) e, flat_map-append quoted (lines (take n text)) (lines (drop n text)))

written_more : {body : List ℕ} {old mid new : Option (List ℕ)} {at n : ℕ} {bytes : List ℕ}
    → WrittenTo body old mid at → at < length body → Part (drop at body) n bytes
    → Appends mid new bytes → WrittenTo body old new (at + n)
written_more {body} {old} {mid} {new} {at} {n} {bytes} w lt p h =
    let x = take n (drop at body) in
    let prefix = take-add at n body in
    let ended : Ended (take at body) = elim (w.ends) [ inl e ↦ absurd (omega (arith, e, lt)) | inr e ↦ e ] in
    let lines_are : flat_map quoted (lines (take (at + n) body)) ≡ flat_map quoted (lines (take at body)) ++ bytes =
    rw (prefix, lines-append x ended, flat_map-append quoted (lines (take at body)) (lines x), p.is) refl in
    record {
      within = omega (arith, w.within, p.within, length-drop at body);
      ends = elim (p.ends) [
        | inl e ↦ inl (omega (arith, e, w.within, length-drop at body))
        | inr e ↦ inr (rw prefix (Ended-append ended e))
      ];
      written = rw lines_are (Appends-trans old mid new (flat_map quoted (lines (take at body))) bytes w.written h);
    }

pub written_found : {body : List ℕ} {old mid new : Option (List ℕ)} {at n : ℕ}
    → WrittenTo body old mid at → FirstQuotable (take (length body - at) (drop at body)) n
    → Appends mid new (take ((at + n) - at) (drop at body)) → WrittenTo body old new (at + n)
written_found {body} {new} {at} {n} w found h =
    let f = rw (take_rest body at) at found in written_more w (omega (arith, f.within, length-drop at body)) (found_part body at n found) h

pub written_line : {body : List ℕ} {old mid new : Option (List ℕ)} (at : ℕ) {n len : ℕ}
    → WrittenTo body old mid (at + n) → FirstQuotable (take (length body - at) (drop at body)) n
    → IsLine (take (length body - (at + n)) (drop (at + n) body)) len → Appends mid new (62 ∷ take (((at + n) + len) - (at + n)) (drop (at + n) body))
    → WrittenTo body old new ((at + n) + len)
written_line {body} {new} at {n} {len} w found line h =
    let f = rw (take_rest body at) at found in written_more w (omega (arith, f.within, length-drop at body)) (line_part body at n len found line) h

pub written_prefix : {body : List ℕ} {old mid : Option (List ℕ)} (new : Option (List ℕ)) {at n : ℕ} {bytes : List ℕ}
    → WrittenTo body old mid at → Part (drop at body) n bytes
    → AppendsPrefix mid new bytes → AppendsPrefix old new (flat_map quoted (lines body))
written_prefix {body} {old} {mid} new {at} {n} {bytes} w p h =
    let D = drop at body in
    let F = flat_map quoted (lines (take at body)) in
    let R = flat_map quoted (lines (drop n D)) in
    prefix_then old mid new F bytes R _ w.written h
    (split-at body w.ends ∙ ap (λ z. F ++ z) (split-at D p.ends ∙ ap (λ z. z ++ R) p.is))

-- the lines after the last quotable one
pub written_rest : {T E : Type 0} (r : Result T E) {body : List ℕ} {old mid : Option (List ℕ)} (new : Option (List ℕ)) {at : ℕ} → let rest : List ℕ =
    take (length body - at) (drop at body) in
    WrittenTo body old mid at → NoneQuotable (lines rest) → Writes mid new r rest → Writes old new r (flat_map quoted (lines body))
written_rest r {body} {old} {mid} new {at} w none h =
    let D = drop at body in
    let F = flat_map quoted (lines (take at body)) in
    let same : flat_map quoted (lines D) ≡ D = plain _ (rw (take_rest body at) at none) ∙ concat-lines D in
    rw (split-at body w.ends, same) (wrote r old mid new F D w.written (rw (take_rest body at) at h))

-- whether a body lacks its last `\n` follows from its last byte
last-is : {body : List ℕ} → eqb (length body) 0 ≡ false → body ≡ take (length body - 1) body ++ get_or body (length body - 1) 0 ∷ []
last-is {body} e = grind (arith, eqb-false, take_all, take_more)

pub missing-empty : (body : List ℕ) → eqb (length body) 0 ≡ true → missing_end body ≡ []
unfolding missing_end
missing-empty body e = grind (arith, nil_from_length, eqb-true)

pub missing-some : (body : List ℕ) → eqb (length body) 0 ≡ false → (get_or body (length body - 1) 0 ≡ 10 → ⊥) → missing_end body ≡ 10 ∷ []
missing-some body e h = grind (arith, last-is e, missing-part, ne_eqb)

pub missing-none : (body : List ℕ) → eqb (length body) 0 ≡ false → get_or body (length body - 1) 0 ≡ 10 → missing_end body ≡ []
missing-none body e h = grind (arith, last-is e, missing-ended (take (length body - 1) body))

pub written_none : {body : List ℕ} {old : Option (List ℕ)} → WrittenTo body old old 0
unfolding lines
written_none {old} = grind (arith, Appends-nil old)
