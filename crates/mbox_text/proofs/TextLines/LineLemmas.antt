-- The lines of a text, and their quoting.
use Rattle.mbox_text.proofs.Common.{◌≡◌, ℕ, Bool, true, false, eqb, List, [], ◌∷◌, ◌++◌, ◌+◌, ◌<◌, add-zero, length, get_or, drop, refl, sym, ap, arith}
use Rattle.mbox_text.proofs.Common.{append_assoc, inl, inr, ◌&&◌, MatchBool, concat, starts_with, false≢true, cases_Bool, ne_eqb, eq-eqb, cases_lt, and_parts}
use Rattle.mbox_text.proofs.Common.{and_from, drop_more, drop_all, get_or-drop, before_first, lines, Ended, NoEnd, begins_with, begins_from, from_bytes}
use Rattle.mbox_text.proofs.Common.{quotable, quoted, unquoted, missing_end}

pub unquoted_quoted : (line : List ℕ) → unquoted (quoted line) ≡ line
unfolding unquoted quoted quotable
unquoted_quoted [] = refl
unquoted_quoted (c ∷ line) = grind (arith, cases_Bool)

pub quoted_no_from : (line : List ℕ) → begins_from (quoted line) ≡ false
unfolding quoted quotable begins_from
quoted_no_from [] = refl
quoted_no_from (c ∷ line) = grind (arith, cases_Bool (quotable (c ∷ line)), cases_Bool (eqb c 62))

-- the first line of a text split off
pub lines-line : (line rest : List ℕ) → NoEnd line → lines (line ++ 10 ∷ rest) ≡ (line ++ 10 ∷ []) ∷ lines rest
unfolding lines
lines-line [] rest h = refl
lines-line (c ∷ line) rest h = rw (h.0, lines-line line rest h.1) refl

-- a text without `\n` is one line
pub lines-part : (c : ℕ) (line : List ℕ) → NoEnd (c ∷ line) → lines (c ∷ line) ≡ (c ∷ line) ∷ []
unfolding lines
lines-part c [] h = rw h.0 refl
lines-part c (d ∷ line) h = rw (h.0, lines-part d line h.1) refl

-- a text that is not empty has a first line
before_first-is : (c : ℕ) (ls : List (List ℕ)) → (first : List ℕ) × (rest : List (List ℕ)) × (before_first c ls ≡ first ∷ rest)
before_first-is c [] = (c ∷ [], [], refl)
before_first-is c (l ∷ ls) = (c ∷ l, ls, refl)

pub lines-first : (c : ℕ) (text : List ℕ) → (first : List ℕ) × (rest : List (List ℕ)) × (lines (c ∷ text) ≡ first ∷ rest)
unfolding lines
lines-first c text =
    elim (cases_Bool (eqb c 10)) [ inl e ↦ (10 ∷ [], lines text, rw e refl) | inr e ↦ rw e (before_first-is c (lines text)) ]

pub lines-last : (prefix : List ℕ) → (first : List ℕ) × (rest : List (List ℕ)) × (lines (prefix ++ 10 ∷ []) ≡ first ∷ rest)
lines-last [] = lines-first 10 []
lines-last (c ∷ prefix) = lines-first c (prefix ++ 10 ∷ [])

-- the lines of two texts, of which the first ends with `\n`
lines-cut : (prefix back : List ℕ) → lines (prefix ++ 10 ∷ back) ≡ lines (prefix ++ 10 ∷ []) ++ lines back
unfolding lines
lines-cut [] back = refl
lines-cut (c ∷ prefix) back = grind (arith, cases_Bool (eqb c 10), lines-cut prefix back, lines-last prefix)

pub lines-append : {prefix : List ℕ} (back : List ℕ) → Ended prefix → lines (prefix ++ back) ≡ lines prefix ++ lines back
unfolding lines
lines-append back (inl e) = rw e refl
lines-append back (inr e) = rw (e.1) (rw append_assoc (lines-cut e.0 back))

-- the lines together are the text
concat-before : (c : ℕ) (ls : List (List ℕ)) → concat (before_first c ls) ≡ c ∷ concat ls
concat-before c [] = refl
concat-before c (l ∷ ls) = refl

pub concat-lines : (text : List ℕ) → concat (lines text) ≡ text
unfolding lines
concat-lines [] = refl
concat-lines (c ∷ text) = grind (arith, concat-lines text, cases_Bool, concat-before)

-- what a line begins with, and whether it is quotable, does not depend on what follows its `\n`
begins_with-cut : (prefix line rest : List ℕ) → NoEnd prefix → begins_with prefix (line ++ 10 ∷ rest) ≡ begins_with prefix line
begins_with-cut [] line rest h = refl
begins_with-cut (p ∷ prefix) [] rest h = rw h.0 refl
begins_with-cut (p ∷ prefix) (c ∷ line) rest h = rw (begins_with-cut prefix line rest h.1) refl

pub begins_from-cut : (line rest : List ℕ) → begins_from (line ++ 10 ∷ rest) ≡ begins_from line
unfolding begins_from
begins_from-cut line rest = grind arith

pub quotable-cut : (line rest : List ℕ) → quotable (line ++ 10 ∷ rest) ≡ quotable line
unfolding quotable begins_from
quotable-cut [] rest = refl
quotable-cut (c ∷ line) rest = rw (quotable-cut line rest, begins_from-cut (c ∷ line) rest) refl

pub unquoted-push : (line : List ℕ) → unquoted (line ++ 10 ∷ []) ≡ unquoted line ++ 10 ∷ []
unfolding unquoted
unquoted-push [] = refl
unquoted-push (c ∷ line) = grind (arith, quotable-cut, cases_Bool)

-- a line that goes on begins with the same bytes
begins_with-more : (prefix line more : List ℕ) → begins_with prefix line ≡ true → begins_with prefix (line ++ more) ≡ true
begins_with-more [] line more h = refl
begins_with-more (p ∷ prefix) [] more h = absurd (false≢true h)
begins_with-more (p ∷ prefix) (c ∷ line) more h = let a = and_parts (eqb p c) (begins_with prefix line) h in
    and_from (eqb p c) (begins_with prefix (line ++ more)) a.0 (begins_with-more prefix line more a.1)

pub begins_from-more : (line more : List ℕ) → begins_from line ≡ true → begins_from (line ++ more) ≡ true
unfolding begins_from
begins_from-more line more h = begins_with-more from_bytes line more h

pub begins_with-starts : (prefix line : List ℕ) → starts_with eqb line prefix ≡ begins_with prefix line
begins_with-starts [] line = refl
begins_with-starts (p ∷ prefix) [] = refl
begins_with-starts (p ∷ prefix) (c ∷ line) = ap (λ b. eqb p c && b) (begins_with-starts prefix line)

pub begins_from-starts : (line : List ℕ) → starts_with eqb line from_bytes ≡ begins_from line
unfolding begins_from
begins_from-starts line = begins_with-starts from_bytes line

-- one more `>`
pub quotable-mark : (line : List ℕ) {at : ℕ} → at < length line → get_or line at 0 ≡ 62 → quotable (drop at line) ≡ quotable (drop (at + 1) line)
unfolding quotable
quotable-mark line {at} h e = rw (drop_more line at 0 h, e) refl

-- no more `>`
pub quotable-plain : (line : List ℕ) → (get_or line 0 0 ≡ 62 → ⊥) → quotable line ≡ begins_from line
unfolding quotable begins_from
quotable-plain [] h = refl
quotable-plain (c ∷ line) h = rw (ne_eqb c 62 h) refl

pub unquoted-mark : (line : List ℕ) → get_or line 0 0 ≡ 62 → quotable line ≡ true → unquoted line ≡ drop 1 line
unfolding unquoted quotable
unquoted-mark [] e q = refl
unquoted-mark (c ∷ line) e q = grind (arith, eq-eqb)

pub unquoted-plain : (line : List ℕ) → (0 < length line → get_or line 0 0 ≡ 62 → ⊥) → unquoted line ≡ line
unfolding unquoted
unquoted-plain [] h = refl
unquoted-plain (c ∷ line) h = rw (ne_eqb c 62 (h (omega arith))) refl

pub unquoted-other : (line : List ℕ) → quotable line ≡ false → unquoted line ≡ line
unfolding unquoted quotable
unquoted-other [] q = refl
unquoted-other (c ∷ line) q = grind (arith, cases_Bool (eqb c 62))

pub quotable-stop : (line : List ℕ) {at : ℕ} → (at < length line → get_or line at 0 ≡ 62 → ⊥) → quotable (drop at line) ≡ begins_from (drop at line)
quotable-stop line h = grind (arith, quotable-plain, cases_lt, get_or-drop, add-zero, drop_all)

pub unquoted_cases : (line : List ℕ) {b : Bool} → 0 < length line → get_or line 0 0 ≡ 62 → b ≡ quotable line
    → MatchBool b ((0 < length line) × (unquoted line ≡ drop 1 line)) (unquoted line ≡ line)
unquoted_cases line {b = true} l e q = (l, unquoted-mark line e (sym q))
unquoted_cases line {b = false} l e q = unquoted-other line (sym q)

-- whether a body lacks its last `\n` follows from its last line
pub missing-ended : (prefix : List ℕ) → missing_end (prefix ++ 10 ∷ []) ≡ []
unfolding missing_end
missing-ended [] = refl
missing-ended (c ∷ []) = refl
missing-ended (c ∷ d ∷ prefix) = missing-ended (d ∷ prefix)

pub missing-part : (prefix : List ℕ) (c : ℕ) (l : List ℕ) → NoEnd (c ∷ l) → missing_end (prefix ++ c ∷ l) ≡ 10 ∷ []
unfolding missing_end
missing-part [] c [] h = rw h.0 refl
missing-part [] c (d ∷ l) h = missing-part [] d l h.1
missing-part (a ∷ []) c l h = missing-part [] c l h
missing-part (a ∷ b ∷ prefix) c l h = missing-part (b ∷ prefix) c l h
