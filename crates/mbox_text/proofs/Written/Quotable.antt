-- The first quotable line of a text, and the lines before it, of which none is.
use Rattle.mbox_text.proofs.Common.{◌≡◌, ℕ, zero, suc, ◌+◌, ◌-◌, ◌≤◌, ◌<◌, Some, None, true, false, eqb, List, [], rules, eqb-true, take_all, take-add, ◌∷◌}
use Rattle.mbox_text.proofs.Common.{◌++◌, length, take, drop, get_or, sym, ◌∙◌, ap, arith, inl, inr, ◌⊎◌, concat, cases_Bool, cases_lt, false≢true, and_parts}
use Rattle.mbox_text.proofs.Common.{length-drop, length-take, get_or-drop, drop-append-le, drop-take, take-take, take_rest, drop-append-add, FindsNeedle}
use Rattle.mbox_text.proofs.Common.{OccursAt, lines, Ended, IsLine, NoneQuotable, FirstQuotable, begins_with, begins_from, from_bytes, quotable}
use Rattle.mbox_text.proofs.TextLines.Heads.{from-long}
use Rattle.mbox_text.proofs.TextLines.LineLemmas.{begins_from-more, concat-lines, lines-append}
use Rattle.mbox_text.proofs.Splitting.HeldLemmas.{Ended-append}
use Rattle.mbox_text.proofs.Splitting.Runs.{begins_from-take, NoneQuotable-append}
use Rattle.mbox_text.proofs.Written.WrittenBody.{quotable-line}

-- `From ` stands nowhere in the text
record NoPlace (text : List ℕ) : Type 0 where
  none : (i : ℕ) → begins_from (drop i text) ≡ true → ⊥

begins-reads : (p t : List ℕ) → begins_with p t ≡ true → (j : ℕ) → j < length p → get_or t j 0 ≡ get_or p j 0
begins-reads [] t h j l = absurd (omega arith)
begins-reads (p ∷ ps) [] h j l = absurd (false≢true h)
begins-reads (p ∷ ps) (c ∷ t) h zero l = grind (arith, eqb-true, and_parts)
begins-reads (p ∷ ps) (c ∷ t) h (suc j) l = begins-reads ps t (and_parts (eqb p c) (begins_with ps t) h).1 j (omega arith)

occurs : {text : List ℕ} {i : ℕ} → begins_from (drop i text) ≡ true → OccursAt text from_bytes i
unfolding begins_from
occurs {text} {i} h = record {
  fits = omega (arith, from-long (drop i text) h, length-drop i text);
  reads = λ j l. sym (get_or-drop i text j 0) ∙ begins-reads from_bytes (drop i text) h j l;
}

no_place_found : {text : List ℕ} → FindsNeedle text from_bytes 0 None → NoPlace text
no_place_found h = record { none = λ i b. let o = occurs b in let f = o.fits in h i (omega arith) (omega (arith, f)) o }

quotable-place : (line : List ℕ) → quotable line ≡ true → (i : ℕ) × (begins_from (drop i line) ≡ true)
unfolding quotable
quotable-place [] h = absurd (false≢true h)
quotable-place (c ∷ line) h =
    elim (cases_Bool (eqb c 62)) [
      | inl e ↦ let r = quotable-place line (rw e at h) in (suc r.0, r.1)
      | inr e ↦ (0, rw e at h)
    ]

plain-prefix : (line rest : List ℕ) → NoPlace (line ++ rest) → quotable line ≡ false
plain-prefix line rest n =
    elim (cases_Bool (quotable line)) [
      | inl q ↦
          let r = quotable-place line q in
          let long = from-long _ r.1 in
          let le : r.0 ≤ length line = omega (arith, long, length-drop r.0 line) in
          absurd (n.none r.0 (rw (drop-append-le r.0 line rest le) (begins_from-more _ rest r.1)))
      | inr q ↦ q
    ]

after : (line rest : List ℕ) → NoPlace (line ++ rest) → NoPlace rest
after line rest n = record { none = λ i b. n.none (length line + i) (rw (drop-append-add line rest i) b) }

none-quotable : (ls : List (List ℕ)) → NoPlace (concat ls) → NoneQuotable ls
none-quotable [] n = tt
none-quotable (l ∷ ls) n = (plain-prefix l _ n, none-quotable ls (after l (concat ls) n))

no_lines : {text : List ℕ} → NoPlace text → NoneQuotable (lines text)
no_lines {text} n = none-quotable _ (rw (concat-lines text) n)

-- the text up to the first `From ` has no `From ` in it
no-place-before : {text : List ℕ} {n f : ℕ} → FindsNeedle text from_bytes 0 (Some n) → f ≤ n → NoPlace (take f text)
no-place-before {text} {f} h le = record {
  none = λ i b.
      let long = from-long _ b in
      let fits : i + 5 ≤ f = omega (arith, long, length-drop i (take f text), length-take f text) in
      let cut : f ≡ i + (f - i) = omega arith in
      let part : drop i (take f text) ≡ take (f - i) (drop i text) = ap (λ m. drop i (take m text)) cut ∙ drop-take i (f - i) text in
      h.0.before i (omega arith) (omega arith) (occurs (begins_from-take _ (f - i) (ap begins_from (sym part) ∙ b)));
}

-- no line up to this place is quotable, and a line or the text ends there
pub record Plain (text : List ℕ) (n : ℕ) : Type 0 where
  pub within : n ≤ length text
  pub ends : (n ≡ length text) ⊎ Ended (take n text)
  pub none : NoneQuotable (lines (take n text))

pub plain_none : {text : List ℕ} → Plain text 0
unfolding lines
plain_none = grind (arith)

pub plain_more : {text : List ℕ} {at n : ℕ} → Plain text at → Plain (drop at text) n → Plain text (at + n)
plain_more {text} {at} p q = grind (arith, take-add, length-drop, Ended-append, lines-append, NoneQuotable-append)

-- no line before the first `From ` is quotable
plain_before : {text : List ℕ} {n f : ℕ} → FindsNeedle text from_bytes 0 (Some n) → f ≤ n → Ended (take f text) → Plain text f
plain_before {text} {n} {f} h le ended = grind (arith, no_lines (no-place-before h le))

-- the same after lines of which none is quotable, with the text cut as the code cuts it
pub plain_prefix : {text : List ℕ} {at n f : ℕ} → let before : List ℕ = take ((at + n) - at) (drop at text) in
    Plain text at → FindsNeedle (take (length text - at) (drop at text)) from_bytes 0 (Some n) → f ≤ length before → Ended (take f before) → Plain text (at + f)
plain_prefix {text} {at} {n} {f} p found within ended =
    let D = drop at text in
    let size : (at + n) - at ≡ n = omega arith in
    let ends = rw size at ended in
    let le : f ≤ n = omega (arith, rw size at within, length-take n D) in
    plain_more p (plain_before (rw (take_rest text at) at found) le (rw (take-take f n D le) at ends))

-- one line more that is not quotable
pub plain_line : {text : List ℕ} {at n : ℕ} → let line : List ℕ =
    take (length text - at) (drop at text) in
    Plain text at → IsLine line n → quotable line ≡ false → Plain text (at + n)
plain_line {text} {at} {n} p is not = search (rules, take_rest, plain_more, quotable-line)

plain_rest : {text : List ℕ} → NoneQuotable (lines text) → Plain text (length text)
plain_rest none = grind (arith, take_all)

pub finds_none : {text : List ℕ} {at : ℕ} → Plain text at → FindsNeedle (take (length text - at) (drop at text)) from_bytes 0 None → NoneQuotable (lines text)
finds_none {text} {at} p found = grind (
  arith,
  take_all (at + length (drop at text)) text (omega (arith, p.within, length-drop at text)),
  plain_more p (plain_rest (no_lines (no_place_found (rw (take_rest text at) at found)))),
)

pub finds_some : {text : List ℕ} {n : ℕ} → Plain text n → quotable (take (length text - n) (drop n text)) ≡ true → FirstQuotable text n
unfolding quotable
finds_some {text} {n} p is = grind (arith, take_rest text n, cases_lt n (length text))
