-- What is written is read again.
use Rattle.mbox_text.proofs.Common.{◌≡◌, ℕ, true, eqb, List, [], ◌∷◌, ◌++◌, map, refl, sym, ◌∙◌, ap, append_assoc, inl, inr, append-nil, arith, flat_map}
use Rattle.mbox_text.proofs.Common.{eqb-true, concat, cases_Bool, flat_map-append, Entry, lines, Ended, NoEnd, quotable, quoted, unquoted, begins_from, NoFrom}
use Rattle.mbox_text.proofs.Common.{Block, Mbox, without_blank, missing_end, spelling, completed, FromLines}
use Rattle.mbox_text.proofs.TextLines.LineLemmas.{lines-append, lines-line, lines-part, begins_from-more, quotable-cut}
use Rattle.mbox_text.proofs.TextLines.LineLemmas.{missing-ended, missing-part, quoted_no_from, unquoted_quoted, concat-lines}
use Rattle.mbox_text.proofs.Reading.Chopped.{Whole, lines-whole}
use Rattle.mbox_text.proofs.Splitting.HeldLemmas.{unended-push, NoFrom-append}

-- a text is whole lines, and a last line that lacks its `\n`
record LastPart (text : List ℕ) : Type 0 where
  prefix : List ℕ
  last : List ℕ
  is : text ≡ prefix ++ last
  ended : Ended prefix
  part : NoEnd last

cut : (text : List ℕ) → LastPart text
cut [] = grind arith
cut (c ∷ text) =
    let r = cut text in
    elim (cases_Bool (eqb c 10)) [
      | inl e ↦ record {
        prefix = c ∷ r.prefix;
        last = r.last;
        is = ap (λ x. c ∷ x) r.is;
        part = r.part;
        ended = elim (r.ended) [ inl n ↦ inr ([], rw (n, eqb-true c 10 e) refl) | inr s ↦ inr (c ∷ s.0, ap (λ x. c ∷ x) s.1) ];
      }
      | inr e ↦ elim (r.ended) [
        | inl n ↦ record { prefix = []; last = c ∷ r.last; is = ap (λ x. c ∷ x) (r.is ∙ (rw n refl)); ended = inl refl; part = (e, r.part) }
        | inr s ↦ record { prefix = c ∷ r.prefix; last = r.last; is = ap (λ x. c ∷ x) r.is; ended = inr (c ∷ s.0, ap (λ x. c ∷ x) s.1); part = r.part }
      ]
    ]

quoted-push : (l : List ℕ) → quoted (l ++ 10 ∷ []) ≡ quoted l ++ 10 ∷ []
unfolding quoted
quoted-push l = grind (arith, quotable-cut l [], cases_Bool (quotable l))

-- the lines of a text that is made of whole lines are those lines
lines-concat : (ls : List (List ℕ)) → Whole ls → lines (flat_map (λ l. l) ls) ≡ ls
unfolding lines
lines-concat [] w = refl
lines-concat (l ∷ ls) w = grind (arith, lines-concat ls w.1, append_assoc, lines-line)

quoted-whole : (x : List ℕ) → NoEnd x → (y : List ℕ) × (quoted (x ++ 10 ∷ []) ≡ y ++ 10 ∷ []) × NoEnd y
unfolding quoted
quoted-whole x h = elim (cases_Bool (quotable x)) [
  | inl e ↦ (62 ∷ x, rw (quotable-cut x [], e) refl, (refl, h))
  | inr e ↦ (x, rw (quotable-cut x [], e) refl, h)
]

map-whole : (ls : List (List ℕ)) → Whole ls → Whole (map quoted ls)
map-whole [] w = tt
map-whole (l ∷ ls) w = grind (arith, map-whole ls w.1, quoted-whole)

flat-map : (ls : List (List ℕ)) → flat_map quoted ls ≡ flat_map (λ l. l) (map quoted ls)
flat-map [] = refl
flat-map (l ∷ ls) = ap (λ z. quoted l ++ z) (flat-map ls)

read-quoted : (ls : List (List ℕ)) → flat_map unquoted (map quoted ls) ≡ concat ls
read-quoted [] = refl
read-quoted (l ∷ ls) = rw (unquoted_quoted l, read-quoted ls) refl

no-from-quoted : (ls : List (List ℕ)) → NoFrom (map quoted ls)
no-from-quoted [] = tt
no-from-quoted (l ∷ ls) = (quoted_no_from l, no-from-quoted ls)

blank-push : (ls : List (List ℕ)) → without_blank (ls ++ (10 ∷ []) ∷ []) ≡ ls
unfolding without_blank
blank-push [] = refl
blank-push (l ∷ []) = refl
blank-push (l ∷ m ∷ ls) = ap (λ z. l ∷ z) (blank-push (m ∷ ls))

-- a body with its last `\n` added, and its lines as they are written
pub record Full (body : List ℕ) : Type 0 where
  ended : Ended (body ++ missing_end body)
  written : flat_map quoted (lines body) ++ missing_end body ≡ flat_map quoted (lines (body ++ missing_end body))

pub full-cut : {body prefix : List ℕ} (last : List ℕ) → body ≡ prefix ++ last → Ended prefix → NoEnd last → Full body
unfolding lines missing_end
full-cut [] e (inl n) h = grind arith
full-cut {body} {prefix} [] e (inr s) h = grind (arith, append-nil prefix, missing-ended s.0, append-nil body, append-nil (flat_map quoted (lines body)))
full-cut {body} {prefix} (c ∷ l) e ends h = grind (
  arith,
  missing-part prefix c l h,
  lines-append (c ∷ l) ends,
  lines-part c l h,
  append_assoc prefix (c ∷ l) (10 ∷ []),
  lines-append (c ∷ (l ++ 10 ∷ [])) ends,
  lines-line (c ∷ l) [] h,
  flat_map-append quoted (lines prefix) ((c ∷ l) ∷ []),
  flat_map-append quoted (lines prefix) ((c ∷ (l ++ 10 ∷ [])) ∷ []),
  append-nil (quoted (c ∷ l)),
  append-nil (quoted (c ∷ (l ++ 10 ∷ []))),
  quoted-push (c ∷ l),
  append_assoc (flat_map quoted (lines prefix)) (quoted (c ∷ l)) (10 ∷ []),
)

full : (body : List ℕ) → Full body
full body = let k = cut body in full-cut k.last k.is k.ended k.part

whole-blank : (ls : List (List ℕ)) → Whole ls → Whole (ls ++ (10 ∷ []) ∷ [])
whole-blank [] w = (([], refl, tt), tt)
whole-blank (l ∷ ls) w = (w.0, whole-blank ls w.1)

spelled-block : (e : Entry) → begins_from e.from_line ≡ true → NoEnd e.from_line → Block (spelling e) (completed e) × Ended (spelling e)
unfolding spelling completed begins_from
spelled-block e b h =
    let f = e.from_line in
    let body = e.body ++ missing_end e.body in
    let u = full e.body in
    let ls = lines body in
    let qs = map quoted ls in
    let w = map-whole ls (lines-whole u.ended) in
    let Id = λ (l : List ℕ). l in
    let others : flat_map quoted (lines e.body) ++ (missing_end e.body ++ 10 ∷ []) ≡ flat_map Id (qs ++ (10 ∷ []) ∷ []) =
    sym (append_assoc (flat_map quoted (lines e.body)) (missing_end e.body) (10 ∷ []))
    ∙ ap (λ z. z ++ 10 ∷ []) (u.written ∙ flat-map ls)
    ∙ sym (flat_map-append Id qs ((10 ∷ []) ∷ [])) in (
      record {
        first = f ++ 10 ∷ [];
        others = qs ++ (10 ∷ []) ∷ [];
        is =
            lines-line f (flat_map quoted (lines e.body) ++ (missing_end e.body ++ 10 ∷ [])) h
            ∙ rw (others, lines-concat _ (whole-blank qs w)) refl;
        head = begins_from-more f (10 ∷ []) b;
        tail = NoFrom-append qs _ (no-from-quoted ls) (refl, tt);
        from_line = sym (unended-push f h);
        body = sym (rw (blank-push qs, read-quoted ls) (concat-lines body));
      },
      inr (f ++ 10 ∷ (flat_map quoted (lines e.body) ++ missing_end e.body), simp append_assoc),
    )

pub spelled_again : (es : List Entry) → FromLines es → Mbox (flat_map spelling es) (map completed es)
unfolding Mbox
spelled_again [] h = refl
spelled_again (e ∷ es) h = grind (arith, spelled-block e h.0.0 h.0.1, spelled_again es h.1)

missing-full : {body prefix : List ℕ} (last : List ℕ) → body ≡ prefix ++ last → Ended prefix → NoEnd last → missing_end (body ++ missing_end body) ≡ []
unfolding missing_end
missing-full [] e (inl n) h = rw (e, n) refl
missing-full {body} {prefix} [] e (inr s) h = grind (arith, append-nil, missing-ended)
missing-full {body} {prefix} (c ∷ l) e ends h = grind (arith, missing-part prefix c l h, missing-ended body)

completed-once : (body : List ℕ) → missing_end (body ++ missing_end body) ≡ []
completed-once body = let k = cut body in missing-full k.last k.is k.ended k.part

spelled-same : (e : Entry) → spelling (completed e) ≡ spelling e
unfolding spelling completed
spelled-same e = grind (arith, full, completed-once, append_assoc)

-- a completed message has the same spelling
pub spelled_once : (es : List Entry) → flat_map spelling (map completed es) ≡ flat_map spelling es
spelled_once [] = refl
spelled_once (e ∷ es) = rw (spelled-same e, spelled_once es) refl
