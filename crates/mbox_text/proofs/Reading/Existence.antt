-- A text that begins with `From ` has messages: what a splitter holds of it, byte by byte.
use Rattle.mbox_text.proofs.Common.{◌≡◌, ℕ, true, eqb, List, [], ◌∷◌, ◌++◌, refl, append_assoc, inl, inr, ◌⊎◌, ◌↔◌, append-nil, arith, eqb-true}
use Rattle.mbox_text.proofs.Common.{both_ways, cases_Bool, Entry, unquoted, begins_with, begins_from, from_bytes, AllButLast, NeverFrom, Mbox, IsMboxText}
use Rattle.mbox_text.proofs.Common.{chopped, AtHead, InBody, Closed}
use Rattle.mbox_text.proofs.TextLines.LineLemmas.{begins_from-cut, begins_from-more}
use Rattle.mbox_text.proofs.TextLines.Heads.{mbox-starts, mbox-begins-last}
use Rattle.mbox_text.proofs.Splitting.HeldLemmas.{head-add, head-ends, body-add, body-closes, body-ends}
use Rattle.mbox_text.proofs.Splitting.Fields.{head_of_none, never-more, at_start, begins_with-ended}
use Rattle.mbox_text.proofs.Reading.Last.{head-last, body-last}

-- a text that ends in a From_ line, or in a line after one
abbrev IsInText : List ℕ → Type 0
IsInText text =
    ((given : List Entry) × (line : List ℕ) × AtHead text given line)
    ⊎ ((given : List Entry) × (from_line : List ℕ) × (body : List ℕ) × (line : List ℕ) × InBody text given from_line body line)

abbrev Goes : List ℕ → Type 0
Goes text = IsInText text ⊎ NeverFrom text

-- one byte more
head-byte : {text : List ℕ} {given : List Entry} {line : List ℕ} (c : ℕ) → AtHead text given line → Goes (text ++ c ∷ [])
head-byte {given} {line} c a = grind (
  arith,
  cases_Bool (eqb c 10),
  cases_Bool (begins_from line),
  cases_Bool (begins_from (line ++ c ∷ [])),
  cases_Bool (begins_with (line ++ c ∷ []) from_bytes),
  eqb-true c 10,
  head-ends a,
  at_start a,
  begins_from-cut line [],
  begins_with-ended line from_bytes,
  head-add (c ∷ []) a,
  begins_from-more line (c ∷ []),
)

body-byte : {text : List ℕ} {given : List Entry} {f body line : List ℕ} (c : ℕ) → InBody text given f body line → Goes (text ++ c ∷ [])
body-byte {given} {f} {body} {line} c a =
    elim (cases_Bool (eqb c 10)) [
      | inl e ↦
          let is = eqb-true c 10 e in
          rw is (inl (inr (given, f, (body ++ unquoted line) ++ 10 ∷ [], [], body-ends a)))
      | inr e ↦
          elim (cases_Bool (begins_from (line ++ c ∷ []))) [
            | inl b ↦
                let entry : Entry = record { from_line = f; body = chopped body } in
                inl (inl (given ++ entry ∷ [], line ++ c ∷ [], body-closes (c ∷ []) a (e, tt) b refl refl))
            | inr b ↦ inl (inr (given, f, body, line ++ c ∷ [], body-add (c ∷ []) a (e, tt) b))
          ]
    ]

goes-byte : {text : List ℕ} (c : ℕ) → Goes text → Goes (text ++ c ∷ [])
goes-byte c (inl (inl h)) = head-byte c h.2
goes-byte c (inl (inr h)) = body-byte c h.4
goes-byte {text} c (inr n) = inr (never-more text (c ∷ []) n)

goes-on : (more : List ℕ) {text : List ℕ} → Goes text → Goes (text ++ more)
goes-on [] {text} g = rw (append-nil text) g
goes-on (c ∷ more) {text} g = rw (← append_assoc text (c ∷ []) more) (goes-on more (goes-byte c g))

goes : (text : List ℕ) → Goes text
goes text = goes-on text (inl (inl ([], [], head_of_none refl)))

pub head-all : {text : List ℕ} {given : List Entry} {line : List ℕ} → AtHead text given line → AllButLast text given
unfolding Closed
head-all {text} {given} {line} a = elim (a.head) [
  | inl b ↦ let m = head-last a b refl refl in inl (mbox-begins-last text given _ m, (_, m))
  | inr g ↦ let none = rw (g.0) at a.closed in inr (rw (a.is, none) g.1, g.0)
]

pub body-all : {text : List ℕ} {given : List Entry} {f body line : List ℕ} → InBody text given f body line → AllButLast text given
body-all {text} {given} {f} {body} {line} a = grind (arith, mbox-begins-last, body-last a refl refl)

exists-at : {text : List ℕ} → begins_from text ≡ true → Goes text → (entries : List Entry) × Mbox text entries
exists-at b (inl (inl h)) =
    elim (cases_Bool (begins_from h.1)) [
      | inl y ↦ (_, head-last h.2 y refl refl)
      | inr n ↦ let s = at_start h.2 n in absurd (both_ways (begins_from h.1) n (rw s.1 at b))
    ]
exists-at b (inl (inr h)) = (_, body-last h.4 refl refl)
exists-at {text} b (inr n) = grind (arith, both_ways)

exists : {text : List ℕ} → IsMboxText text → (entries : List Entry) × Mbox text entries
unfolding Mbox
exists (inl e) = ([], e)
exists {text} (inr b) = exists-at b (goes text)

pub read_where : {text : List ℕ} → IsMboxText text ↔ ((entries : List Entry) × Mbox text entries)
read_where {text} = (exists, λ h. mbox-starts h.0 h.1)
