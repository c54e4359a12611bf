-- What `finish` returns.
use Rattle.mbox_text.proofs.Common.{◌≡◌, ℕ, ◌<◌, ◌≤◌, true, false, List, [], ◌∷◌, ◌++◌, length, refl, sym, ◌∙◌, ap, arith, Option, Some, None, Result, IsErrOf}
use Rattle.mbox_text.proofs.Common.{false≢true, true≢false, Entry, TextFault, NoFromLine, PartialMessage, Splitter, Mbox, begins_from, unquoted, HeldIn}
use Rattle.mbox_text.proofs.Common.{chopped, GivesLast, RefusesShort}
use Rattle.mbox_text.proofs.TextLines.Heads.{from-long, from-short, mbox-begins-last}
use Rattle.mbox_text.proofs.Splitting.Fields.{at_start}
use Rattle.mbox_text.proofs.Reading.Last.{head-last, body-last}

-- this is the last message of each text that the splitter holds
abbrev pub EndsWith : Splitter → Entry → Type 0
EndsWith splitter e = (text : List ℕ) (given : List Entry) → HeldIn text given splitter → Mbox text (given ++ e ∷ [])

pub ends_body : (splitter : Splitter) {m : PartialMessage} (e : Entry) (line : List ℕ)
    → splitter.message ≡ Some m → line ≡ splitter.line.items → e.from_line ≡ m.from_line.items
    → e.body ≡ chopped (m.body.items ++ unquoted line) → EndsWith splitter e
ends_body splitter {m} e line is e1 ef eb text given h = grind (arith, body-last)

pub ends_head : (splitter : Splitter) {e : Entry} {line : List ℕ} → splitter.message ≡ None → line ≡ splitter.line.items → begins_from line ≡ true
    → e.from_line ≡ splitter.line.items → e.body ≡ [] → EndsWith splitter e
ends_head splitter {e} is e1 b ef eb text given h = grind (arith, head-last)

-- the text that the splitter was fed is not too short
long : (splitter : Splitter) (e : Entry) → EndsWith splitter e → (text : List ℕ) (given : List Entry) → HeldIn text given splitter → 5 ≤ length text
long splitter e ends text given h = grind (arith, from-long, mbox-begins-last)

pub ends_some : {splitter : Splitter} (e : Entry) → EndsWith splitter e → GivesLast splitter (Some e)
ends_some {splitter} e ends = λ text given h. (
  ends text given h.held,
  (λ t. absurd (true≢false t), λ n. absurd (omega (arith, long splitter e ends text given h.held, ap length n))),
)

not_short : {splitter : Splitter} (e : Entry) (r : Result (Option Entry) TextFault) → EndsWith splitter e → (IsErrOf r NoFromLine → ⊥) → RefusesShort splitter r
not_short {splitter} e r ends n = λ text given h. (
  λ x. absurd (n x),
  λ s. absurd (omega (arith, long splitter e ends text given h.held, s.1)),
)

pub not_short_body : (splitter : Splitter) {m : PartialMessage} (r : Result (Option Entry) TextFault)
    → splitter.message ≡ Some m → (IsErrOf r NoFromLine → ⊥) → RefusesShort splitter r
not_short_body splitter {m} r is =
    not_short _ r (ends_body splitter
    _ _ is refl refl refl)

pub not_short_head : (splitter : Splitter) {line : List ℕ} (r : Result (Option Entry) TextFault)
    → splitter.message ≡ None → line ≡ splitter.line.items → begins_from line ≡ true
    → (IsErrOf r NoFromLine → ⊥) → RefusesShort splitter r
not_short_head splitter r is e1 b = not_short _ r (ends_head splitter is e1 b refl refl)

-- the text so far is one line that begins no message, so it is too short
first_line : (splitter : Splitter) {line text : List ℕ} {given : List Entry} → splitter.message ≡ None
    → line ≡ splitter.line.items → begins_from line ≡ false → HeldIn text given splitter
    → (given ≡ []) × ((text ≡ splitter.line.items) × (length text < 5))
first_line splitter is e1 b h = grind (arith, at_start, false≢true, from-short)

pub ends_none : {splitter : Splitter} → splitter.message ≡ None → splitter.line.items ≡ [] → GivesLast splitter None
unfolding Mbox begins_from
ends_none {splitter} is e = λ text given h.
    let f = first_line splitter is (sym e) refl h.held in
    let empty = f.1.0 ∙ e in
    (rw (f.0, empty) refl, (λ _. empty, λ _. refl))

pub short_none : {splitter : Splitter} {r : Result (Option Entry) TextFault} → (IsErrOf r NoFromLine → ⊥)
    → splitter.message ≡ None → splitter.line.items ≡ [] → RefusesShort splitter r
unfolding begins_from
short_none {splitter} n is e = λ text given h.
    let f = first_line splitter is (sym e) refl h.held in
    let empty = ap length (f.1.0 ∙ e) in
    (λ x. absurd (n x), λ s. absurd (omega (arith, empty, s.0)))

pub short_refused : {splitter : Splitter} {line : List ℕ} {r : Result (Option Entry) TextFault}
    → IsErrOf r NoFromLine → splitter.message ≡ None → 0 < length splitter.line.items
    → line ≡ splitter.line.items → begins_from line ≡ false → RefusesShort splitter r
short_refused y is some e1 b = grind (arith, first_line)
