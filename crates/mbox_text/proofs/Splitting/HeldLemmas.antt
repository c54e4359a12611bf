-- What a splitter keeps in memory, step by step.
use Rattle.mbox_text.proofs.Common.{◌≡◌, ℕ, true, false, List, [], ◌∷◌, ◌++◌, refl, sym, ◌∙◌, ap, append_assoc, inl, inr, ◌⊎◌, flat_map, append-nil, arith}
use Rattle.mbox_text.proofs.Common.{flat_map-append, Entry, lines, Ended, NoEnd, unquoted, begins_from, begins_with, from_bytes, NoFrom, unended}
use Rattle.mbox_text.proofs.Common.{without_blank, Block, chopped, Closed, Open, AtHead, InBody}
use Rattle.mbox_text.proofs.TextLines.LineLemmas.{lines-append, lines-line, lines-part, unquoted-push, begins_from-cut, begins_from-more}
use Rattle.mbox_text.proofs.Reading.Chopped.{chopped-body, chopped-part, without_blank-part, unquoted-some}
use Rattle.mbox_text.proofs.TextLines.LineEnds.{NoEnd-append}

pub NoFrom-append : (a b : List (List ℕ)) → NoFrom a → NoFrom b → NoFrom (a ++ b)
NoFrom-append [] b h h' = h'
NoFrom-append (c ∷ a) b h h' = (h.0, NoFrom-append a b h.1 h')

pub Ended-append : {a b : List ℕ} → Ended a → Ended b → Ended (a ++ b)
Ended-append {a} h (inl e) = rw e (rw (append-nil a) h)
Ended-append {a} h (inr e) = grind (arith, append_assoc a e.0 (10 ∷ []))

pub unended-push : (l : List ℕ) → NoEnd l → unended (l ++ 10 ∷ []) ≡ l
unended-push [] h = refl
unended-push (c ∷ l) h = rw (h.0, unended-push l h.1) refl

pub Closed-push : (text : List ℕ) (given : List Entry) {block : List ℕ} {e : Entry}
    → Closed text given → Block block e → Ended block → Closed (text ++ block) (given ++ e ∷ [])
unfolding Closed
Closed-push text [] {block} h b ends = grind (arith, append-nil)
Closed-push text (g ∷ given) {block} h b ends = grind (arith, Closed-push h.1 given h.5 b ends, append_assoc)

open-ends : {block f body : List ℕ} → Open block f body → Ended block
open-ends {f} o = elim (o.ended) [
  | inl e ↦ inr (f, rw (o.is, e) refl)
  | inr e ↦ inr (f ++ 10 ∷ e.0, rw (o.is, e.1) (sym (append_assoc f (10 ∷ e.0) (10 ∷ []))))
]

-- the last line of a body, which lacks its `\n`
pub record LastBody (text body : List ℕ) : Type 0 where
  pub none : NoFrom (lines text)
  pub is : body ≡ flat_map unquoted (without_blank (lines text))

pub last_body : {prefix : List ℕ} (rest : List ℕ) {body : List ℕ} → Ended prefix → NoFrom (lines prefix) → NoEnd rest → begins_from rest ≡ false
    → body ≡ chopped (flat_map unquoted (lines prefix) ++ unquoted rest) → LastBody (prefix ++ rest) body
unfolding unquoted
last_body {prefix} [] ends none part b is = grind (arith, append-nil, chopped-body)
last_body {prefix} (c ∷ l) ends none part b is = grind (
  arith,
  lines-append (c ∷ l) ends,
  lines-part c l part,
  NoFrom-append,
  without_blank-part (lines prefix) c l part,
  flat_map-append unquoted (lines prefix) ((c ∷ l) ∷ []),
  append-nil (unquoted (c ∷ l)),
  chopped-part true (flat_map unquoted (lines prefix)) (unquoted-some c l part).0 (unquoted-some c l part).1 (unquoted-some c l part).3,
)

-- a block that ends in a line with no `\n`, or in a whole one
pub open-last : {block f body : List ℕ} (line : List ℕ) {e : Entry} → Open block f body → NoEnd line
    → begins_from line ≡ false → e.from_line ≡ f → e.body ≡ chopped (body ++ unquoted line)
    → Block (block ++ line) e
open-last {f} {body} line o h b ef eb = grind (
  arith,
  append_assoc f (10 ∷ o.others) line,
  lines-line f (o.others ++ line) o.line,
  begins_from-more f (10 ∷ []) o.head,
  last_body,
  unended-push f o.line,
)

open-block : {block f body : List ℕ} {e : Entry} → Open block f body → e.from_line ≡ f → e.body ≡ chopped body → Block block e
unfolding unquoted begins_from
open-block {block} {body} {e} o ef eb =
    let b = open-last [] o tt refl ef (eb ∙ ap chopped (sym (append-nil body))) in rw (append-nil block) at b

-- more bytes of a From_ line
pub head-add : {text : List ℕ} {given : List Entry} {line : List ℕ} (part : List ℕ) → AtHead text given line → NoEnd part
    → (begins_from (line ++ part) ≡ true) ⊎ (begins_with (line ++ part) from_bytes ≡ true) → AtHead (text ++ part) given (line ++ part)
head-add {line} part a h b = grind (arith, append_assoc, NoEnd-append, begins_from-more)

-- more bytes of a line that begins no message
pub body-add : {text : List ℕ} {given : List Entry} {f body line : List ℕ} (part : List ℕ) → InBody text given f body line → NoEnd part
    → begins_from (line ++ part) ≡ false → InBody (text ++ part) given f body (line ++ part)
body-add {line} part a h b = grind (arith, append_assoc, NoEnd-append)

-- the line begins the next message
pub body-closes : {text : List ℕ} {given : List Entry} {f body line : List ℕ} (part : List ℕ) {e : Entry} → InBody text given f body line → NoEnd part
    → begins_from (line ++ part) ≡ true → e.from_line ≡ f → e.body ≡ chopped body → AtHead (text ++ part) (given ++ e ∷ []) (line ++ part)
body-closes {given} {line} part {e} a h b is_line is_body = grind (
  arith,
  append_assoc a.prefix (a.block ++ line) part,
  append_assoc a.block line part,
  append_assoc a.prefix a.block (line ++ part),
  Closed-push a.prefix given a.closed (open-block a.opened is_line is_body) (open-ends a.opened),
  NoEnd-append line part a.part h,
)

-- the From_ line is whole
pub head-ends : {text : List ℕ} {given : List Entry} {line : List ℕ} → AtHead text given line → begins_from line ≡ true
    → InBody (text ++ 10 ∷ []) given line [] []
unfolding lines begins_from
head-ends {line} a b = grind (arith, append-nil (line ++ 10 ∷ []), append_assoc a.prefix line (10 ∷ []))

-- whole lines that begin no message
pub body-lines : {text : List ℕ} {given : List Entry} {f body part : List ℕ} → InBody text given f body [] → Ended part → NoFrom (lines part)
    → InBody (text ++ part) given f (body ++ flat_map unquoted (lines part)) []
unfolding lines begins_from
body-lines {f} {part} a ends none = grind (
  arith,
  append-nil (a.block ++ part),
  append-nil a.block,
  append_assoc a.prefix a.block part,
  append_assoc f (10 ∷ a.opened.others) part,
  Ended-append a.opened.ended ends,
  lines-append part a.opened.ended,
  NoFrom-append,
  flat_map-append unquoted (lines a.opened.others) (lines part),
)

-- the text without its last line
body-whole : {text : List ℕ} {given : List Entry} {f body line : List ℕ} → (a : InBody text given f body line)
    → InBody (a.prefix ++ a.block) given f body []
unfolding begins_from
body-whole a = grind (arith, append-nil a.block)

-- the end of a line that begins no message
pub body-ends : {text : List ℕ} {given : List Entry} {f body line : List ℕ} → InBody text given f body line
    → InBody (text ++ 10 ∷ []) given f ((body ++ unquoted line) ++ 10 ∷ []) []
unfolding lines
body-ends {line} a = grind (
  arith,
  lines-line line [] a.part,
  begins_from-cut line [],
  body-lines {part = line ++ 10 ∷ []} (body-whole a),
  append_assoc,
  append-nil,
  unquoted-push line,
)
