-- A body without its last line if that is `\n` alone.
use Rattle.mbox_text.proofs.Common.{◌-◌, ◌<◌, ◌≡◌, ℕ, Bool, true, false, eqb, List, [], ◌∷◌, ◌++◌, length, length-append, flat_map, eqb-true, take, refl, sym}
use Rattle.mbox_text.proofs.Common.{◌∙◌, ap, arith, inl, inr, ◌&&◌, Decides, MatchBool, append-nil, ends_with, cases_Bool, false≢true, both_ways, and_parts}
use Rattle.mbox_text.proofs.Common.{and_right, take-append-add, Decides-eqb, ends_is, lines, Ended, NoEnd, quotable, unquoted, without_blank, kept}
use Rattle.mbox_text.proofs.Common.{chopped_from, chopped}
use Rattle.mbox_text.proofs.TextLines.LineLemmas.{lines-last, unquoted-push}

-- each line ends with its only `\n`
abbrev pub Whole : List (List ℕ) → Type 0
Whole [] = Unit {0}
Whole (l ∷ ls) = ((x : List ℕ) × (l ≡ x ++ 10 ∷ []) × NoEnd x) × Whole ls

-- after a `\n` only the rest matters
chopped-after : (at_start : Bool) (x : List ℕ) (c : ℕ) (t : List ℕ) → chopped_from at_start ((x ++ 10 ∷ []) ++ c ∷ t) ≡ (x ++ 10 ∷ []) ++ chopped (c ∷ t)
unfolding chopped_from
chopped-after at_start [] c t = refl
chopped-after at_start (a ∷ []) c t = refl
chopped-after at_start (a ∷ b ∷ x) c t = ap (λ l. a ∷ l) (chopped-after (eqb a 10) (b ∷ x) c t)

-- a line with bytes before its `\n` stays
chopped-line : (at_start : Bool) {c : ℕ} (x : List ℕ) → NoEnd (c ∷ x) → chopped_from at_start (c ∷ (x ++ 10 ∷ [])) ≡ c ∷ (x ++ 10 ∷ [])
unfolding chopped_from
chopped-line at_start [] h = rw h.0 refl
chopped-line at_start {c} (d ∷ x) h = ap (λ l. c ∷ l) (chopped-line (eqb c 10) x h.1)

-- a line with bytes before its `\n` has some when it is unquoted
pub unquoted-some : (c : ℕ) (x : List ℕ) → NoEnd (c ∷ x) → (d : ℕ) × (y : List ℕ) × (unquoted (c ∷ x) ≡ d ∷ y) × NoEnd (d ∷ y)
unfolding unquoted quotable
unquoted-some c [] h = grind (arith, cases_Bool)
unquoted-some c (d ∷ x) h =
    elim (cases_Bool (eqb c 62 && quotable (d ∷ x))) [ inl e ↦ rw e (d, x, refl, h.1) | inr e ↦ rw e (c, d ∷ x, refl, h) ]

some : (y t : List ℕ) → (c : ℕ) × (u : List ℕ) × ((y ++ 10 ∷ []) ++ t ≡ c ∷ u)
some [] t = (10, t, refl)
some (c ∷ y) t = (c, (y ++ 10 ∷ []) ++ t, refl)

unquoted-more : {l : List ℕ} (ls : List (List ℕ)) → Whole (l ∷ ls) → (c : ℕ) × (t : List ℕ) × (flat_map unquoted (l ∷ ls) ≡ c ∷ t)
unquoted-more ls w = let x = w.0.0 in rw (w.0.1, unquoted-push x) (some (unquoted x) (flat_map unquoted ls))

kept-some : {c : ℕ} (x : List ℕ) → kept (c ∷ (x ++ 10 ∷ [])) ≡ (c ∷ (x ++ 10 ∷ [])) ∷ []
kept-some [] = refl
kept-some (d ∷ x) = refl

chopped-one : (x : List ℕ) → NoEnd x → chopped (unquoted (x ++ 10 ∷ []) ++ []) ≡ flat_map unquoted (kept (x ++ 10 ∷ []))
unfolding chopped_from unquoted
chopped-one [] h = refl
chopped-one (c ∷ x) h =
    let u = unquoted-some c x h in
    let p = unquoted-push (c ∷ x) in
    rw (kept-some x, append-nil (unquoted (c ∷ (x ++ 10 ∷ []))), p, u.2) (chopped-line true u.1 u.3)

pub chopped-lines : (ls : List (List ℕ)) → Whole ls → chopped (flat_map unquoted ls) ≡ flat_map unquoted (without_blank ls)
unfolding chopped_from without_blank
chopped-lines [] w = refl
chopped-lines (l ∷ []) w = rw (w.0.1) (chopped-one w.0.0 w.0.2)
chopped-lines (l ∷ m ∷ ls) w =
    let r = unquoted-more ls w.1 in
    let ih = chopped-lines (m ∷ ls) w.1 in
    rw (w.0.1, unquoted-push w.0.0, ← ih, r.2) (chopped-after true (unquoted w.0.0) r.0 r.1)

before-whole : {c : ℕ} {first : List ℕ} (rest : List (List ℕ)) → eqb c 10 ≡ false → Whole (first ∷ rest) → Whole ((c ∷ first) ∷ rest)
before-whole {c} rest h w = ((c ∷ w.0.0, ap (λ x. c ∷ x) w.0.1, (h, w.0.2)), w.1)

lines-whole-at : (prefix : List ℕ) → Whole (lines (prefix ++ 10 ∷ []))
unfolding lines
lines-whole-at [] = (([], refl, tt), tt)
lines-whole-at (c ∷ prefix) =
    elim (cases_Bool (eqb c 10)) [
      | inl e ↦ rw e (([], refl, tt), lines-whole-at prefix)
      | inr e ↦
          let f = lines-last prefix in
          let w' = rw f.2 at (lines-whole-at prefix) in
          rw (e, f.2) (before-whole f.1 e w')
    ]

-- a text that ends with a `\n` has whole lines
pub lines-whole : {text : List ℕ} → Ended text → Whole (lines text)
unfolding lines
lines-whole (inl e) = rw e tt
lines-whole (inr e) = rw e.1 (lines-whole-at e.0)

pub chopped-body : {text : List ℕ} → Ended text → chopped (flat_map unquoted (lines text)) ≡ flat_map unquoted (without_blank (lines text))
chopped-body {text} e = chopped-lines _ (lines-whole e)

chop-blank : (at_start : Bool) (x : List ℕ) → chopped_from at_start (x ++ 10 ∷ 10 ∷ []) ≡ x ++ 10 ∷ []
unfolding chopped_from
chop-blank at_start [] = refl
chop-blank at_start (a ∷ []) = refl
chop-blank at_start (a ∷ b ∷ x) = ap (λ l. a ∷ l) (chop-blank (eqb a 10) (b ∷ x))

-- the two texts that lose their last line
chop_only : {b : List ℕ} → b ≡ 10 ∷ [] → (0 < length b) × (take (length b - 1) b ≡ chopped b)
unfolding chopped_from
chop_only e = rw e (omega arith, refl)

chop_last : {b : List ℕ} (x : List ℕ) → b ≡ x ++ 10 ∷ 10 ∷ [] → (0 < length b) × (take (length b - 1) b ≡ chopped b)
chop_last x e = grind (arith, length-append x (10 ∷ 10 ∷ []), chop-blank true x, take-append-add x (10 ∷ 10 ∷ []) 1)

-- every other text stays as it is
chop-other : (at_start : Bool) (b : List ℕ) → (at_start ≡ true → b ≡ 10 ∷ [] → ⊥) → ((x : List ℕ) → b ≡ x ++ 10 ∷ 10 ∷ [] → ⊥) → b ≡ chopped_from at_start b
unfolding chopped_from
chop-other at_start [] h h' = refl
chop-other at_start (c ∷ []) h h' = grind (arith, cases_Bool, and_parts, eqb-true)
chop-other at_start (c ∷ d ∷ b) h h' =
    ap (λ l. c ∷ l) (chop-other (eqb c 10) (d ∷ b) (λ e is. h' [] (rw (eqb-true c 10 e, is) refl)) (λ x is. h' (c ∷ x) (ap (λ l. c ∷ l) is)))

-- the two conditions of `last_is_blank` decide whether the last line is `\n` alone
pub only_blank : {b line : List ℕ} {r : Bool} → line ≡ 10 ∷ [] → Decides r (b ≡ line) → r ≡ true
    → MatchBool r ((0 < length b) × (take (length b - 1) b ≡ chopped b)) (b ≡ chopped b)
only_blank is d t = rw t (chop_only (d.0 t ∙ is))

pub last_blank : {b line : List ℕ} {r ends : Bool} → line ≡ 10 ∷ [] → Decides r (b ≡ line) → r ≡ false → ends ≡ ends_with eqb b (10 ∷ 10 ∷ [])
    → MatchBool ends ((0 < length b) × (take (length b - 1) b ≡ chopped b)) (b ≡ chopped b)
last_blank {b} {ends = true} is d f h = chop_last _ ((ends_is Decides-eqb b (10 ∷ 10 ∷ []) true h).0 refl)
last_blank {b} {r} {ends = false} is d f h =
    chop-other true b (λ _ one. both_ways r f (d.1 (one ∙ sym is))) (λ x two. false≢true ((ends_is Decides-eqb b (10 ∷ 10 ∷ []) false h).1 x two))

-- a text whose last line lacks its `\n` stays
pub chopped-part : (at_start : Bool) (x : List ℕ) (d : ℕ) (y : List ℕ) → NoEnd (d ∷ y) → chopped_from at_start (x ++ d ∷ y) ≡ x ++ d ∷ y
unfolding chopped_from
chopped-part at_start [] d [] h = grind (arith, and_right)
chopped-part at_start [] d (e ∷ y) h = ap (λ l. d ∷ l) (chopped-part (eqb d 10) [] e y h.1)
chopped-part at_start (a ∷ []) d y h = ap (λ l. a ∷ l) (chopped-part (eqb a 10) [] d y h)
chopped-part at_start (a ∷ b ∷ x) d y h = ap (λ l. a ∷ l) (chopped-part (eqb a 10) (b ∷ x) d y h)

-- the list of its lines stays too
pub without_blank-part : (ls : List (List ℕ)) (c : ℕ) (l : List ℕ) → NoEnd (c ∷ l) → without_blank (ls ++ (c ∷ l) ∷ []) ≡ ls ++ (c ∷ l) ∷ []
unfolding without_blank
without_blank-part [] c [] h = rw h.0 refl
without_blank-part [] c (d ∷ l) h = refl
without_blank-part (a ∷ []) c l h = ap (λ z. a ∷ z) (without_blank-part [] c l h)
without_blank-part (a ∷ b ∷ ls) c l h = ap (λ z. a ∷ z) (without_blank-part (b ∷ ls) c l h)
