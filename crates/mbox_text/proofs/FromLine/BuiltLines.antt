-- From_ lines, taken apart and built.
use Rattle.mbox_text.proofs.Common.{◌≡◌, ℕ, zero, suc, ◌-◌, ◌<◌, ◌≤◌, true, false, Option, Some, None, Result, Ok, Err, cond, eqb, List, [], append-nil, ◌∷◌}
use Rattle.mbox_text.proofs.Common.{◌++◌, get_or, length, take, drop, map, refl, sym, ◌∙◌, ap, arith, append_assoc, Contains, OnOk, codes, is_ok, is_some}
use Rattle.mbox_text.proofs.Common.{false_from_ne_true, false≢true, drop_at, length-take, take_rest, IsFirstByte, is_byte, NoEnd, begins_from, from_bytes}
use Rattle.mbox_text.proofs.Common.{IsFromLine, before_space, past_spaces, sender, rest, hyphened, cleaned, after_sender, built}
use Rattle.mbox_text.proofs.TextLines.LineEnds.{none-there, NoEnd-append, NoEnd-at}

-- a list that a call extended
pub extended_by : {E : Type 0} (r : Result (Unit {0}) E) {now : List ℕ} (was : List ℕ) {ys zs : List ℕ}
    → now ≡ cond (is_ok r) (was ++ ys) was → ys ≡ zs → OnOk r (now ≡ was ++ zs)
extended_by (Ok u) was e e' = rw (← e') e
extended_by (Err x) was e e' = tt

pub cleaned-none : (s : List ℕ) → length s ≡ 0 → codes "MAILER-DAEMON" ≡ cleaned s
unfolding cleaned
cleaned-none [] h = refl
cleaned-none (c ∷ s) h = absurd (omega (arith, h))

pub cleaned-some : (s : List ℕ) → (length s ≡ 0 → ⊥) → cleaned s ≡ map hyphened s
unfolding cleaned
cleaned-some [] h = absurd (h refl)
cleaned-some (c ∷ s) h = refl

-- no byte of a sender is written as a space or as a `\n`
hyphened-space : (c : ℕ) → eqb (hyphened c) 32 ≡ false
hyphened-space c = grind arith

hyphened-end : (c : ℕ) → eqb (hyphened c) 10 ≡ false
hyphened-end c = grind arith

before-map : (s t : List ℕ) → before_space (map hyphened s ++ t) ≡ map hyphened s ++ before_space t
before-map [] t = refl
before-map (c ∷ s) t = rw (hyphened-space c, before-map s t) refl

before-after : (r : List ℕ) → before_space (after_sender r) ≡ []
before-after [] = refl
before-after (c ∷ r) = refl

before-cleaned : (s t : List ℕ) → before_space t ≡ [] → before_space (cleaned s ++ t) ≡ cleaned s
unfolding cleaned
before-cleaned [] t h = rw h refl
before-cleaned (c ∷ s) t h = grind (arith, before-map, append-nil)

pub sender-built : (s r : List ℕ) → sender (built s r) ≡ cleaned s
unfolding sender built
sender-built s r = before-cleaned s _ (before-after r)

past-after : (r : List ℕ) → past_spaces (after_sender r) ≡ past_spaces r
past-after [] = refl
past-after (c ∷ r) = refl

pub rest-built : (s r : List ℕ) → rest (built s r) ≡ past_spaces r
unfolding rest built
rest-built s r = grind (arith, sender-built, drop_at, past-after)

NoEnd-map : (s : List ℕ) → NoEnd (map hyphened s)
NoEnd-map [] = tt
NoEnd-map (c ∷ s) = (hyphened-end c, NoEnd-map s)

NoEnd-cleaned : (s : List ℕ) → NoEnd (cleaned s)
unfolding cleaned
NoEnd-cleaned [] = grind (arith)
NoEnd-cleaned (c ∷ s) = NoEnd-map (c ∷ s)

NoEnd-after : (r : List ℕ) → NoEnd r → NoEnd (after_sender r)
NoEnd-after [] h = tt
NoEnd-after (c ∷ r) h = (refl, h)

built-line : (s r : List ℕ) → NoEnd r → IsFromLine (built s r)
unfolding built begins_from
built-line s r h = grind (arith, NoEnd-append, NoEnd-cleaned, NoEnd-after)

pub is-built : {line : List ℕ} (s r : List ℕ) (found : Option ℕ) → IsFirstByte (is_byte 10) r found → is_some found ≡ false → line ≡ built s r → IsFromLine line
is-built s r None h e is = rw is (built-line s r (none-there r h))
is-built s r (Some n) h e is = absurd (false≢true (sym e))

pub not-found : (r : List ℕ) (found : Option ℕ) → IsFirstByte (is_byte 10) r found → is_some found ≡ false → Contains r 10 → ⊥
not-found r None h e there = grind (arith, NoEnd-at r there.0 10 (none-there r h) there.1)
not-found r (Some n) h e there = absurd (false≢true (sym e))

pub built-none : (s r : List ℕ) → length r ≡ 0 → from_bytes ++ cleaned s ≡ built s r
unfolding built
built-none s [] h = grind (arith, append-nil)
built-none s (c ∷ r) h = absurd (omega (arith, h))

pub built-some : (s r : List ℕ) → (length r ≡ 0 → ⊥) → ((from_bytes ++ cleaned s) ++ 32 ∷ []) ++ r ≡ built s r
unfolding built
built-some s [] h = absurd (h refl)
built-some s (c ∷ r) h = simp append_assoc

-- a search for the first space
before-at : (s : List ℕ) (n : ℕ) → ((k : ℕ) → k < n → eqb (get_or s k 0) 32 ≡ true → ⊥)
    → n < length s → eqb (get_or s n 0) 32 ≡ true → take n s ≡ before_space s
before-at [] n h l e = absurd (omega (arith, l))
before-at (c ∷ s) zero h l e = rw e refl
before-at (c ∷ s) (suc n) h l e =
    let here : eqb c 32 ≡ false = false_from_ne_true (eqb c 32) (h 0 (omega arith)) in
    rw (here, before-at s n (λ k lt. h (suc k) (omega arith)) (omega (arith, l)) e) refl

before-all : (s : List ℕ) → ((k : ℕ) → k < length s → eqb (get_or s k 0) 32 ≡ true → ⊥) → s ≡ before_space s
before-all [] h = refl
before-all (c ∷ s) h =
    let here : eqb c 32 ≡ false = false_from_ne_true (eqb c 32) (h 0 (omega arith)) in
    let ih = before-all s (λ k lt. h (suc k) (omega arith)) in
    rw here (ap (λ z. c ∷ z) ih)

pub before-found : (s : List ℕ) {n : ℕ} → IsFirstByte (is_byte 32) s (Some n) → take n s ≡ before_space s
before-found s h = grind (arith, before-at)

pub before-none : {s : List ℕ} → IsFirstByte (is_byte 32) s None → s ≡ before_space s
before-none {s} h = grind (arith, before-all)

-- the parts of a From_ line whose first space after `From ` is at this place
pub sender-at : (line : List ℕ) {after : List ℕ} (n : ℕ) → after ≡ drop 5 line → take n after ≡ before_space after → take n after ≡ sender line
unfolding sender
sender-at line n e b = b ∙ ap (λ z. before_space z) e

pub rest-at : (line : List ℕ) {after result : List ℕ} {n : ℕ} → after ≡ drop 5 line → n ≤ length after → take n after ≡ before_space after
    → result ≡ past_spaces (take (length after - n) (drop n after)) → result ≡ rest line
unfolding rest
rest-at line {after} e w b is = grind (arith, sender-at, length-take, take_rest)
