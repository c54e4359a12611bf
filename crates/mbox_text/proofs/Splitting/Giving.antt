-- Which messages a splitter has returned: all but the last, whatever comes after the text.
use Rattle.mbox_text.proofs.Common.{◌≡◌, ℕ, false, List, [], ◌∷◌, ◌++◌, refl, sym, ◌∙◌, ap, append_assoc, inl, inr, Option, Some, rules, None, Result, Ok, Err}
use Rattle.mbox_text.proofs.Common.{OnOk, IfErr, IsErr, IsErrOf, is_err, IsErrAnd, append-nil, arith, both_ways, append_cancel_left, Entry, PartialMessage}
use Rattle.mbox_text.proofs.Common.{TextFault, NoFromLine, LineEndInRest, Failed, OutOfMemory, WriteFault, Splitter, begins_from, from_bytes, AllButLast}
use Rattle.mbox_text.proofs.Common.{NeverFrom, Stay, Mbox, without_blank, Held, HeldIn, Moves, Gives, Refuses, Stops, Fed, Takes, NeverBegins, TakesPart}
use Rattle.mbox_text.proofs.TextLines.LineLemmas.{begins_from-more}
use Rattle.mbox_text.proofs.TextLines.Heads.{from-rest}
use Rattle.mbox_text.proofs.Reading.Last.{from-block}
use Rattle.mbox_text.proofs.Reading.Prefixes.{prefix_reading}
use Rattle.mbox_text.proofs.Reading.Existence.{head-all, body-all}
use Rattle.mbox_text.proofs.Splitting.Fields.{never-more}

held-all : (message : Option PartialMessage) (text : List ℕ) {given : List Entry} (line : List ℕ) → Held text given message line → AllButLast text given
held-all None text line a = head-all a
held-all (Some m) text line a = body-all a

pub fed_from : {splitter : Splitter} {text : List ℕ} {given : List Entry} → splitter.failed ≡ false → HeldIn text given splitter → Fed text given splitter
fed_from {splitter} {text} {given} works h = grind (arith, held-all)

-- all messages but the last stay the first ones, whatever comes after the text
pub all_stay : (text : List ℕ) {given : List Entry} → AllButLast text given → Stay text given
all_stay text {given} (inl a) more entries h = grind (arith, prefix_reading)
all_stay text (inr a) more entries h = inl a.1

-- there are none if no mbox text begins with this text
all_none : (text more : List ℕ) {given : List Entry} → AllButLast text given → NeverFrom (text ++ more) → given ≡ []
all_none text more (inl a) n = grind (arith, both_ways, begins_from-more)
all_none text more (inr a) n = a.1

-- one part, and then another
pub gives_then : (old mid new : Splitter) (p q : List ℕ) (out : List Entry) {out1 out' : List Entry}
    → Gives old p out out1 mid → Gives mid q out1 out' new → Gives old (p ++ q) out out' new
gives_then old mid new p q out a b = grind (arith, append_assoc)

pub gives_none : (old new : Splitter) (part : List ℕ) {out out' : List Entry} → out' ≡ out → Moves old part [] new → Gives old part out out' new
gives_none old new part {out} e m = ([], e ∙ sym (append-nil out), m)

pub gives_nothing : (splitter : Splitter) {out : List Entry} → Gives splitter [] out out splitter
gives_nothing splitter = grind (arith, gives_none, append-nil)

-- a splitter that refuses a part refuses it with more after it
refuses_more : (fault : TextFault) (splitter : Splitter) (part more : List ℕ) → Refuses fault splitter part → Refuses fault splitter (part ++ more)
refuses_more NoFromLine splitter part more r = λ text given h.
    let x = r text given h in (x.0, rw (← append_assoc text part more) (never-more _ more x.1))
refuses_more OutOfMemory splitter part more r = tt
refuses_more LineEndInRest splitter part more r = absurd r
refuses_more Failed splitter part more r = absurd r
refuses_more WriteFault splitter part more r = absurd r

pub stops_at : (fault : TextFault) (old now : Splitter) {piece : List ℕ} (prefix part more : List ℕ) (out out' : List Entry)
    → Gives old prefix out out' now → Refuses fault now part
    → piece ≡ prefix ++ (part ++ more) → Stops fault old piece out out'
stops_at fault old now prefix part more out out' g r e = search (rules, refuses_more)

pub stops_after : {fault : TextFault} {old mid : Splitter} {piece : List ℕ} (prefix : List ℕ) {part : List ℕ} {out out1 out' : List Entry}
    → Gives old prefix out out1 mid → Stops fault mid part out1 out'
    → piece ≡ prefix ++ part → Stops fault old piece out out'
stops_after {old} {mid} prefix {out} {out1} {out'} g s e = record {
  prefix = prefix ++ s.prefix;
  rest = s.rest;
  now = s.now;
  is = e ∙ ap (λ z. prefix ++ z) s.is ∙ sym (append_assoc prefix s.prefix s.rest);
  gives = gives_then old mid s.now prefix s.prefix out g s.gives;
  refuses = s.refuses;
}

-- the fault of a step is the fault of the call
pub handed_on : {T : Type 0} (r : Result T TextFault) {e : TextFault} (P : TextFault → Type 0) → IsErr r × IsErrAnd r (λ v. v ≡ e) → P e → IfErr r P
handed_on (Ok x) P is h = absurd is.1
handed_on (Err v) P is h = rw is.1 h

prefix-cut : (added all rest : List Entry) (last next : Entry) → all ++ last ∷ [] ≡ added ++ next ∷ rest → (r : List Entry) × (all ≡ added ++ r)
prefix-cut [] all rest last next e = (all, refl)
prefix-cut (x ∷ []) [] rest last next e = absurd (cc)
prefix-cut (x ∷ y ∷ added) [] rest last next e = absurd (cc)
prefix-cut (x ∷ added) (y ∷ all) rest last next e = grind (arith, prefix-cut added all rest last next cc)

only-prefix : (given rest : List Entry) {last : Entry} (next : Entry) → last ∷ [] ≡ given ++ next ∷ rest → given ≡ []
only-prefix [] rest next e = refl
only-prefix (g ∷ []) rest next e = absurd (cc)
only-prefix (g ∷ h ∷ given) rest next e = absurd (cc)

nil_right : (a : List Entry) {b : List Entry} → a ++ b ≡ [] → b ≡ []
nil_right [] e = e
nil_right (x ∷ a) e = absurd (cc)

from-alone : (entry : Entry) × Mbox from_bytes (entry ∷ [])
unfolding Mbox without_blank begins_from
from-alone =
    let entry : Entry = record { from_line = from_bytes; body = [] } in
    (entry, (from_bytes, [], refl, from-block _ (refl, (refl, (refl, (refl, (refl, tt))))) refl refl refl, inr refl, refl))

-- the messages that stay are a prefix of those that are returned if nothing fails
part : (text : List ℕ) (given added all : List Entry) → Stay text (given ++ added)
    → AllButLast text (given ++ all) → (rest : List Entry) × (all ≡ added ++ rest)
part text given added all s (inl h) =
    let texts = append-nil text in
    elim (s [] ((given ++ all) ++ h.1.0 ∷ []) (rw texts h.1.1)) [
      | inl none ↦ let n = nil_right given none in (all, rw n refl)
      | inr f ↦
          let e = append_cancel_left given (all ++ h.1.0 ∷ []) (added ++ f.0 ∷ f.1)
          (sym (append_assoc given all (h.1.0 ∷ [])) ∙ f.2 ∙ append_assoc given added (f.0 ∷ f.1)) in
          prefix-cut added all f.1 h.1.0 f.0 e
    ]
part text given added all s (inr h) = grind (arith, from-rest, from-alone, only-prefix, nil_right)

-- what `Ok`, `NoFromLine` and `OutOfMemory` of a feed mean
pub fed_taken : {T : Type 0} (r : Result T TextFault) (old new : Splitter) (piece : List ℕ) (out out' : List Entry) → new.failed ≡ is_err r
    → OnOk r (Gives old piece out out' new) → OnOk r (Takes old piece out out' new)
fed_taken (Ok x) old new piece out out' works g = grind (arith, fed_from)
fed_taken (Err e) old new piece out out' works g = tt

pub fed_never : {T : Type 0} {r : Result T TextFault} {old : Splitter} (piece : List ℕ) {out out' : List Entry}
    → IfErr r (λ fault. Stops fault old piece out out') → IsErrOf r NoFromLine → NeverBegins old piece out out'
fed_never piece h is text given fed = grind (arith, nil_right, append-nil, append_assoc)

pub fed_part : {T : Type 0} {r : Result T TextFault} {old : Splitter} {piece : List ℕ} (out : List Entry) {out' : List Entry}
    → IfErr r (λ fault. Stops fault old piece out out') → IsErrOf r OutOfMemory → TakesPart old piece out out'
fed_part {piece} out h is =
    let s = rw is at h in
    let g = s.gives in (
      g.0,
      g.1,
      λ text given fed.
          let prefix = text ++ s.prefix in
          let now = given ++ g.0 in
          let a = held-all s.now.message prefix s.now.line.items (g.2 text given fed.held) in
          let texts : text ++ piece ≡ prefix ++ s.rest = ap (λ z. text ++ z) s.is ∙ sym (append_assoc text s.prefix s.rest) in
          let stay : Stay (text ++ piece) now = λ more entries m.
          all_stay prefix a (s.rest ++ more) entries (rw (texts, append_assoc prefix s.rest more) at m) in
          (λ all is_all. part (text ++ piece) given g.0 all stay is_all, λ n. nil_right given (all_none prefix s.rest a (rw texts at n))),
    )
