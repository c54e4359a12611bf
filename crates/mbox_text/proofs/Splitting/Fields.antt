-- What a splitter keeps in memory, over the fields as the code changes them.
use Rattle.mbox_text.proofs.Common.{◌≡◌, ℕ, ◌+◌, ◌-◌, true, false, eqb, List, [], ◌∷◌, ◌++◌, length, take, drop, refl, sym, eqb-true, take-append-drop}
use Rattle.mbox_text.proofs.Common.{append-nil, inl, inr, Option, Some, None, Result, Ok, Err, IfOk, is_some, flat_map, take-add, arith, AllocError, both_ways}
use Rattle.mbox_text.proofs.Common.{false≢true, and_parts, ne_eqb, eqb-false, eq-eqb, cases_Bool, take_rest, Entry, PartialMessage, lines, Ended, NoEnd}
use Rattle.mbox_text.proofs.Common.{unquoted, begins_from, begins_with, from_bytes, NeverFrom, NoFrom, chopped, AtHead, InBody, Held, Closed}
use Rattle.mbox_text.proofs.Splitting.HeldLemmas.{head-add, body-add, body-closes, head-ends, body-ends, body-lines}
use Rattle.mbox_text.proofs.TextLines.LineLemmas.{begins_from-more, begins_from-cut}

pub head_of_none : {line : List ℕ} → line ≡ [] → AtHead [] [] line
unfolding Rattle.mbox_text.specs.Held.Closed
head_of_none e = grind (arith)

pub some_ends : {message : Option PartialMessage} {m : PartialMessage} {line line1 body line' : List ℕ} → message ≡ Some m → line1 ≡ line
    → body ≡ (m.body.items ++ unquoted line1) ++ 10 ∷ [] → line' ≡ []
    → (text : List ℕ) (given : List Entry) → Held text given message line → InBody (text ++ 10 ∷ []) (given ++ []) m.from_line.items body line'
some_ends e el eb el' text given h = grind (arith, append-nil, body-ends)

pub none_ends : {message : Option PartialMessage} {line line1 f body line' : List ℕ} → message ≡ None → line1 ≡ line
    → begins_from line1 ≡ true → f ≡ line → body ≡ [] → line' ≡ []
    → (text : List ℕ) (given : List Entry) → Held text given message line → InBody (text ++ 10 ∷ []) (given ++ []) f body line'
none_ends e el b ef eb el' text given h = grind (arith, append-nil, head-ends)

pub some_closes : {message message' : Option PartialMessage} {m : PartialMessage} {e : Entry} (line part : List ℕ) {line' line1 : List ℕ}
    → message ≡ Some m → message' ≡ None
    → line' ≡ line ++ part → NoEnd part → line1 ≡ line' → begins_from line1 ≡ true → e.from_line ≡ m.from_line.items → e.body ≡ chopped m.body.items
    → (text : List ℕ) (given : List Entry) → Held text given message line → Held (text ++ part) (given ++ e ∷ []) message' line'
some_closes line part is is' el h e1 b ef eb text given held = grind (arith, body-closes)

pub none_adds : {message message' : Option PartialMessage} (line part : List ℕ) {line' line1 : List ℕ} → message ≡ None → message' ≡ None
    → line' ≡ line ++ part → NoEnd part → line1 ≡ line' → begins_from line1 ≡ true
    → (text : List ℕ) (given : List Entry) → Held text given message line → Held (text ++ part) (given ++ []) message' line'
none_adds line part is is' el h e1 b text given held = grind (arith, append-nil, head-add)

pub plain_adds : (message : Option PartialMessage) (line part : List ℕ) {line' line1 : List ℕ}
    → line' ≡ line ++ part → NoEnd part → line1 ≡ line' → begins_from line1 ≡ false
    → (message ≡ None → begins_with line' from_bytes ≡ true)
    → (text : List ℕ) (given : List Entry) → Held text given message line → Held (text ++ part) (given ++ []) message line'
plain_adds None line part {line'} el h e1 b start text given held = grind (arith, append-nil, head-add)
plain_adds (Some m) line part el h e1 b start text given held = grind (arith, append-nil, body-add)

pub some_lines : {message : Option PartialMessage} {m : PartialMessage} {line body part : List ℕ} → message ≡ Some m → line ≡ []
    → body ≡ m.body.items ++ flat_map unquoted (lines part) → Ended part → NoFrom (lines part)
    → (text : List ℕ) (given : List Entry) → Held text given message line → InBody (text ++ part) (given ++ []) m.from_line.items body line
some_lines {part} e el eb ends none text given h = grind (arith, append-nil, body-lines)

pub take-at : (text : List ℕ) (at n : ℕ) → take (at + n) text ≡ take at text ++ take n (take (length text - at) (drop at text))
take-at text at n = rw (take_rest text at) (take-add at n text)

-- the text so far is the line alone
pub at_start : {text : List ℕ} {given : List Entry} {line : List ℕ} → AtHead text given line → begins_from line ≡ false → (given ≡ []) × (text ≡ line)
unfolding Closed
at_start {line} a b = grind arith

pub none_refuses : {message : Option PartialMessage} (line part : List ℕ) {line' line1 line2 : List ℕ} → message ≡ None → line' ≡ line ++ part
    → line1 ≡ line' → begins_from line1 ≡ false → line2 ≡ line' → begins_with line2 from_bytes ≡ false
    → (text : List ℕ) (given : List Entry) → Held text given message line → (given ≡ []) × NeverFrom (text ++ part)
none_refuses line part is el e1 b e2 p text given held = grind (arith, cases_Bool, both_ways, begins_from-more, at_start)

pub begins_with-ended : (line prefix : List ℕ) → NoEnd prefix → begins_with (line ++ 10 ∷ []) prefix ≡ false
begins_with-ended [] [] h = refl
begins_with-ended [] (p ∷ prefix) h = grind (arith, ne_eqb, eqb-false)
begins_with-ended (c ∷ line) [] h = refl
begins_with-ended (c ∷ line) (p ∷ prefix) h = grind (arith, begins_with-ended line prefix h.1)

pub end_refuses : {message : Option PartialMessage} {line line1 : List ℕ} → message ≡ None → line1 ≡ line → begins_from line1 ≡ false
    → (text : List ℕ) (given : List Entry) → Held text given message line → (given ≡ []) × NeverFrom (text ++ 10 ∷ [])
end_refuses {line} is e1 b text given held = grind (arith, at_start, begins_from-cut, begins_with-ended)

pub none_is : (m : Option PartialMessage) → is_some m ≡ false → m ≡ None
none_is None h = refl
none_is (Some m) h = absurd (false≢true (sym h))

-- a text that begins no mbox text begins none with more after it
begins_with-less : (p t more : List ℕ) → begins_with p (t ++ more) ≡ true → begins_with t p ≡ false → begins_with p t ≡ true
begins_with-less [] t more h n = refl
begins_with-less (p ∷ ps) [] more h n = absurd (false≢true (sym n))
begins_with-less (p ∷ ps) (c ∷ t) more h n =
    let a = and_parts (eqb p c) (begins_with ps (t ++ more)) h in
    let e = eqb-true p c a.0 in
    let e' = eq-eqb c p (sym e) in
    rw a.0 (begins_with-less ps t more a.1 (rw e' at n))

begins_with-short : (t p more : List ℕ) → begins_with t p ≡ false → begins_with (t ++ more) p ≡ false
begins_with-short [] p more h = absurd (false≢true (sym h))
begins_with-short (c ∷ t) [] more h = refl
begins_with-short (c ∷ t) (p ∷ ps) more h =
    elim (cases_Bool (eqb c p)) [ inl e ↦ rw e (begins_with-short t ps more (rw e at h)) | inr e ↦ rw e refl ]

pub never-more : (text more : List ℕ) → NeverFrom text → NeverFrom (text ++ more)
unfolding begins_from
never-more text more h = grind arith

-- the text in three parts
pub three-parts : {text : List ℕ} (at n : ℕ) → let rest : List ℕ = take (length text - at) (drop at text) in text ≡ take at text ++ (take n rest ++ drop n rest)
three-parts at n = grind (arith, take-append-drop, take_rest)

-- the whole lines that a call has taken
pub lines_taken : (r : Result ℕ AllocError) {message : Option PartialMessage} {m : PartialMessage} {line : List ℕ} (body text : List ℕ)
    → message ≡ Some m → line ≡ []
    → IfOk r (λ n. body ≡ m.body.items ++ flat_map unquoted (lines (take n text)))
    → IfOk r (λ n. Ended (take n text)) → IfOk r (λ n. NoFrom (lines (take n text)))
    → IfOk r
    (λ n. (text' : List ℕ) (given : List Entry) → Held text' given message line → InBody (text' ++ take n text) (given ++ []) m.from_line.items body line)
lines_taken (Ok n) body text is e eb ends none = some_lines is e eb ends none
lines_taken (Err x) body text is e eb ends none = tt
