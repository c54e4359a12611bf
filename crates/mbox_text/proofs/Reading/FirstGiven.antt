-- The returned messages are a prefix of the messages of each text that begins with the text so far.
use Rattle.mbox_text.proofs.Common.{ℕ, ◌<◌, ◌≤◌, List, [], ◌∷◌, length, arith, length-append, ◌≡◌, ◌++◌, refl, inl, inr, Entry, Block, Mbox, IsUnreadable}
use Rattle.mbox_text.proofs.Common.{lines, AllButLast}
use Rattle.mbox_text.proofs.TextLines.LineLemmas.{begins_from-more}
use Rattle.mbox_text.proofs.Reading.Existence.{read_where}
use Rattle.mbox_text.proofs.Splitting.Giving.{all_stay}

-- ---- a text has no more messages than bytes
some-block : (block : List ℕ) {e : Entry} → Block block e → 0 < length block
unfolding lines
some-block [] b = let is = b.is in absurd (cc)
some-block (c ∷ block) b = omega arith

pub mbox-length : (text : List ℕ) (entries : List Entry) → Mbox text entries → length entries ≤ length text
unfolding Mbox
mbox-length text [] h = omega arith
mbox-length text (e ∷ es) h = grind (arith, length-append h.0 h.1, some-block h.0 h.3, mbox-length h.1 es h.5)

-- ---- the returned messages are a prefix of the messages of each text that begins with the text so far
-- there are no more messages than bytes
pub few_given : (text : List ℕ) (given : List Entry) → AllButLast text given → length given ≤ length text
few_given text given (inl a) = grind (arith, mbox-length, length-append)
few_given text given (inr a) = rw a.1 (omega arith)

pub first_of : (text more : List ℕ) (given entries : List Entry) → AllButLast text given
    → Mbox (text ++ more) entries → (rest : List Entry) × (entries ≡ given ++ rest)
first_of text more given entries a m = elim (all_stay text a more entries m) [
  | inl none ↦ (entries, rw none refl)
  | inr q ↦ (q.0 ∷ q.1, q.2)
]

pub unread_none : (text more : List ℕ) (given : List Entry) → AllButLast text given → IsUnreadable (text ++ more) → given ≡ []
unread_none text more given (inl a) none = grind (arith, read_where, begins_from-more text more a.0)
unread_none text more given (inr a) none = a.1
