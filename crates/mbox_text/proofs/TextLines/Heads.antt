-- What a text and its first line begin with.
use Rattle.mbox_text.proofs.Common.{◌≡◌, ℕ, ◌<◌, ◌≤◌, true, false, eqb, List, [], ◌∷◌, ◌++◌, length, refl, sym, arith, inl, inr, ◌⊎◌, eqb-true, concat}
use Rattle.mbox_text.proofs.Common.{false≢true, and_parts, and_from, eq-eqb, Entry, before_first, lines, NoEnd, begins_with, begins_from, from_bytes, Block}
use Rattle.mbox_text.proofs.Common.{Mbox, IsMboxText}
use Rattle.mbox_text.proofs.TextLines.LineLemmas.{begins_from-more, concat-lines}

-- the text has a first line, and it begins with these bytes
abbrev FirstBegins : List ℕ → List (List ℕ) → Type 0
FirstBegins prefix [] = ⊥
FirstBegins prefix (l ∷ ls) = begins_with prefix l ≡ true

before-begins : (q c : ℕ) (prefix : List ℕ) (ls : List (List ℕ)) → eqb q c ≡ true → (prefix ≡ []) ⊎ FirstBegins prefix ls
    → FirstBegins (q ∷ prefix) (before_first c ls)
before-begins q c prefix [] e (inl n) = rw n (and_from (eqb q c) true e refl)
before-begins q c prefix [] e (inr h) = absurd h
before-begins q c prefix (l ∷ ls) e (inl n) = rw n (and_from (eqb q c) true e refl)
before-begins q c prefix (l ∷ ls) e (inr h) = grind (arith, and_from)

no-end : (q c : ℕ) → eqb q c ≡ true → eqb q 10 ≡ false → eqb c 10 ≡ false
no-end q c e n = let s = eqb-true q c e in rw (← s) n

first-begins : (q : ℕ) (prefix text : List ℕ) → NoEnd (q ∷ prefix) → begins_with (q ∷ prefix) text ≡ true → FirstBegins (q ∷ prefix) (lines text)
unfolding lines
first-begins q prefix [] n h = absurd (false≢true h)
first-begins q [] (c ∷ text) n h = grind (arith, and_parts, no-end, before-begins)
first-begins q (r ∷ prefix) (c ∷ text) n h =
    let a = and_parts (eqb q c) (begins_with (r ∷ prefix) text) h in
    rw (no-end q c a.0 n.0) (before-begins q c (r ∷ prefix) (lines text) a.0 (inr (first-begins r prefix text n.1 a.1)))

first-there : (prefix : List ℕ) (ls : List (List ℕ)) → FirstBegins prefix ls
    → (first : List ℕ) × (rest : List (List ℕ)) × (ls ≡ first ∷ rest) × (begins_with prefix first ≡ true)
first-there prefix [] h = absurd h
first-there prefix (l ∷ ls) h = (l, ls, refl, h)

-- the first line of a text that begins with `From ` is a From_ line
pub head-line : (text : List ℕ) → begins_from text ≡ true → (first : List ℕ) × (rest : List (List ℕ)) × (lines text ≡ first ∷ rest) × (begins_from first ≡ true)
unfolding begins_from
head-line text h =
    first-there from_bytes (lines text) (first-begins 70 (114 ∷ 111 ∷ 109 ∷ 32 ∷ []) text (refl, (refl, (refl, (refl, (refl, tt))))) h)

-- a block begins with `From `
pub block-begins : {block : List ℕ} {entry : Entry} → Block block entry → begins_from block ≡ true
block-begins {block} b = grind (arith, concat-lines block, begins_from-more b.first (concat b.others) b.head)

-- a text with a message begins with `From `
pub mbox-begins : (text : List ℕ) (entry : Entry) (entries : List Entry) → Mbox text (entry ∷ entries) → begins_from text ≡ true
unfolding Mbox
mbox-begins text entry entries h = rw h.2 (begins_from-more h.0 h.1 (block-begins h.3))

-- a text in `Mbox` is empty or begins with `From `
pub mbox-starts : {text : List ℕ} (entries : List Entry) → Mbox text entries → IsMboxText text
unfolding Mbox
mbox-starts [] h = inl h
mbox-starts {text} (e ∷ es) h = inr (mbox-begins text e es h)

pub mbox-begins-last : (text : List ℕ) (given : List Entry) (last : Entry) → Mbox text (given ++ last ∷ []) → begins_from text ≡ true
mbox-begins-last text [] last h = mbox-begins text last [] h
mbox-begins-last text (g ∷ given) last h = mbox-begins text g _ h

-- the length of a text that begins with `From `, or is a prefix of it
longer : (prefix text : List ℕ) → begins_with prefix text ≡ true → length prefix ≤ length text
longer [] text h = omega arith
longer (p ∷ prefix) [] h = absurd (false≢true h)
longer (p ∷ prefix) (c ∷ text) h = grind (arith, longer prefix text (and_parts (eqb p c) (begins_with prefix text) h).1)

shorter : (prefix text : List ℕ) → begins_with text prefix ≡ true → begins_with prefix text ≡ false → length text < length prefix
shorter [] text h n = absurd (false≢true (sym n))
shorter (p ∷ prefix) [] h n = omega arith
shorter (p ∷ prefix) (c ∷ text) h n =
    let a = and_parts (eqb c p) (begins_with text prefix) h in
    let e = eq-eqb p c (sym (eqb-true c p a.0)) in
    let l = shorter prefix text a.1 (rw e at n) in
    omega (arith, l)

pub from-long : (text : List ℕ) → begins_from text ≡ true → 5 ≤ length text
unfolding begins_from
from-long text h = longer from_bytes text h

pub from-short : (text : List ℕ) → begins_with text from_bytes ≡ true → begins_from text ≡ false → length text < 5
unfolding begins_from
from-short text h n = shorter _ text h n

prefix-rest : (prefix text : List ℕ) → begins_with text prefix ≡ true → (more : List ℕ) × (text ++ more ≡ prefix)
prefix-rest prefix [] h = (prefix, refl)
prefix-rest [] (c ∷ text) h = absurd (false≢true h)
prefix-rest (p ∷ prefix) (c ∷ text) h =
    grind (arith, prefix-rest prefix text (and_parts (eqb c p) (begins_with text prefix) h).1, eqb-true c p (and_parts (eqb c p) (begins_with text prefix) h).0)

-- a prefix of `From ` can go on to the whole of it
pub from-rest : (text : List ℕ) → begins_with text from_bytes ≡ true → (more : List ℕ) × (text ++ more ≡ from_bytes)
from-rest text h = prefix-rest _ text h
