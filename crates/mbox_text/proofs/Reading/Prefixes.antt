-- The messages of a prefix are a prefix of the messages.
use Rattle.mbox_text.proofs.Common.{◌≡◌, ℕ, true, List, [], ◌∷◌, ◌++◌, refl, ap, append_assoc, inl, inr, append-nil, arith, Entry, lines, Ended, begins_from}
use Rattle.mbox_text.proofs.Common.{IsProperPrefix, Block, Mbox, Closed}
use Rattle.mbox_text.proofs.TextLines.LineLemmas.{lines-append, begins_from-more}
use Rattle.mbox_text.proofs.TextLines.Heads.{head-line, block-begins}
use Rattle.mbox_text.proofs.Reading.OneReading.{reads-append, mbox-reads, LinesRead}
use Rattle.mbox_text.proofs.Splitting.HeldLemmas.{Ended-append}
use Rattle.mbox_text.proofs.Reading.Last.{closed-mbox}

closed-ended : {prefix : List ℕ} (given : List Entry) → Closed prefix given → Ended prefix
unfolding Closed
closed-ended [] h = inl h
closed-ended (g ∷ given) h = rw h.2 (Ended-append h.4 (closed-ended given h.5))

-- a line that is left over begins or continues a message
some-left : (l : List ℕ) (ls : List (List ℕ)) (given : List Entry) {entries : List Entry} (rest : List Entry)
    → entries ≡ given ++ rest → LinesRead (l ∷ ls) rest → IsProperPrefix given entries
some-left l ls given [] e h = let no : l ∷ ls ≡ [] = h in absurd (cc)
some-left l ls given (next ∷ rest) e h = (next, rest, e)

-- whole blocks, and then a From_ line
pub closed-prefix : (prefix tail : List ℕ) (given : List Entry) {entries : List Entry} → Closed prefix given → begins_from tail ≡ true
    → Mbox (prefix ++ tail) entries
    → IsProperPrefix given entries
closed-prefix prefix tail given {entries} c b m =
    let f = head-line tail b in
    let e : lines (prefix ++ tail) ≡ lines prefix ++ f.0 ∷ f.1 = rw (lines-append tail (closed-ended given c), f.2) refl in
    let r = reads-append _ _ given entries
    (mbox-reads prefix given (closed-mbox prefix given c)) f.3 (rw e at (mbox-reads _ entries m)) in
    some-left f.0 f.1 given r.0 r.1 r.2

-- the blocks of all messages but the last
record AllButLastBlock (text : List ℕ) (given : List Entry) (last : Entry) : Type 0 where
  prefix : List ℕ
  block : List ℕ
  is : text ≡ prefix ++ block
  closed : Closed prefix given
  after : Block block last

not-nil : (given : List Entry) (last : Entry) → given ++ last ∷ [] ≡ [] → ⊥
not-nil [] last e = absurd (cc)
not-nil (g ∷ given) last e = absurd (cc)

prefix-of : {text : List ℕ} (given : List Entry) {last : Entry} → Mbox text (given ++ last ∷ []) → AllButLastBlock text given last
unfolding Mbox Closed
prefix-of {text} [] h = grind (arith, append-nil)
prefix-of (g ∷ given) {last} h =
    let r = prefix-of given h.5 in
    elim (h.4) [
      | inl ends ↦ record {
        prefix = h.0 ++ r.prefix;
        block = r.block;
        is = rw (h.2, append_assoc h.0 r.prefix r.block) (ap (λ z. h.0 ++ z) r.is);
        closed = (h.0, r.prefix, refl, h.3, ends, r.closed);
        after = r.after;
      }
      | inr e ↦ absurd (not-nil given last e)
    ]

pub prefix_reading : (text more : List ℕ) (entries given : List Entry) (last : Entry) → Mbox text (given ++ last ∷ []) → Mbox (text ++ more) entries
    → IsProperPrefix given entries
prefix_reading text more entries given last h h' = grind (
  arith,
  closed-prefix,
  begins_from-more (prefix-of given h).block more (block-begins (prefix-of given h).after),
  append_assoc (prefix-of given h).prefix (prefix-of given h).block more,
)
