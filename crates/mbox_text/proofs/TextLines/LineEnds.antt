-- Where the `\n` of a text stand.
use Rattle.mbox_text.proofs.Common.{◌≡◌, ℕ, zero, suc, ◌+◌, ◌<◌, ◌↔◌, Bool, true, false, Option, Some, None, eqb, List, [], ◌∷◌, eqb-true, take_all, ◌++◌}
use Rattle.mbox_text.proofs.Common.{length, get_or, take, drop, not, is_some, IsTrue, refl, sym, ◌∙◌, ap, arith, both_ways, false_from_ne_true, take_more}
use Rattle.mbox_text.proofs.Common.{length-drop, get_or-drop, IsFirstByte, IsLastByte, is_byte, lines, NoEnd, IsLine}
use Rattle.mbox_text.proofs.TextLines.LineLemmas.{lines-line, lines-part}

pub NoEnd-append : (a b : List ℕ) → NoEnd a → NoEnd b → NoEnd (a ++ b)
NoEnd-append [] b h h' = h'
NoEnd-append (c ∷ a) b h h' = (h.0, NoEnd-append a b h.1 h')

pub NoEnd-take : (s : List ℕ) (n : ℕ) → ((k : ℕ) → k < n → eqb (get_or s k 0) 10 ≡ true → ⊥) → NoEnd (take n s)
NoEnd-take s zero h = tt
NoEnd-take [] (suc n) h = tt
NoEnd-take (c ∷ s) (suc n) h = (false_from_ne_true (eqb c 10) (h 0 (omega arith)), NoEnd-take s n (λ k l. h (suc k) (omega arith)))

pub NoEnd-after : (s : List ℕ) (n : ℕ) → IsLastByte (is_byte 10) s (Some n) → NoEnd (drop (n + 1) s)
NoEnd-after s n h =
    let D = drop (n + 1) s in
    let whole : take (length D) D ≡ D = take_all (length D) D (omega arith) in
    rw (← whole) (NoEnd-take D _
    (λ k l e. h.0.after ((n + 1) + k) (omega arith) (omega (arith, l, length-drop (n + 1) s)) (ap (is_byte 10) (sym (get_or-drop (n + 1) s k 0)) ∙ e)))

-- the line up to the first `\n`
pub record LineThere (s : List ℕ) (n : ℕ) : Type 0 where
  pub within : n < length s
  pub is : take (n + 1) s ≡ take n s ++ 10 ∷ []
  pub part : NoEnd (take n s)

pub line-there : {s : List ℕ} {n : ℕ} → IsFirstByte (is_byte 10) s (Some n) → LineThere s n
line-there h = grind (arith, take_more, eqb-true, NoEnd-take)

-- no `\n` in the text
pub none-there : (s : List ℕ) → IsFirstByte (is_byte 10) s None → NoEnd s
none-there s h = grind (arith, take_all (length s) s (omega arith), NoEnd-take)

pub line_ends : {text : List ℕ} {n : ℕ} → IsFirstByte (is_byte 10) text (Some n) → IsLine text (n + 1)
unfolding lines
line_ends found = grind (arith, line-there, lines-line)

pub line_alone : (text : List ℕ) → 0 < length text → IsFirstByte (is_byte 10) text None → IsLine text (length text)
line_alone [] l found = absurd (omega arith)
line_alone (c ∷ text) l found = grind (arith, take_all (length (c ∷ text)) (c ∷ text) (omega arith), lines-part c text (none-there (c ∷ text) found))

pub NoEnd-at : (s : List ℕ) (n d : ℕ) → NoEnd s → n < length s → eqb (get_or s n d) 10 ≡ false
NoEnd-at [] n d h l = absurd (omega arith)
NoEnd-at (c ∷ s) zero d h l = h.0
NoEnd-at (c ∷ s) (suc n) d h l = NoEnd-at s n d h.1 (omega arith)

-- a search that finds no `\n`
pub no_end_found : (s : List ℕ) (r : Option ℕ) (b : Bool) → IsFirstByte (is_byte 10) s r → is_some r ≡ not b → IsTrue b ↔ NoEnd s
no_end_found s None true h e = (λ _. none-there s h, λ _. refl)
no_end_found s None false h e = absurd (cc)
no_end_found s (Some n) true h e = absurd (cc)
no_end_found s (Some n) false h e = grind (arith, both_ways, NoEnd-at)
