-- Texts one after the other.
use Rattle.mbox_text.proofs.Common.{◌≡◌, ℕ, List, [], ◌∷◌, ◌++◌, ◌⊎◌, map, ◌∙◌, ap, append_assoc, append-nil, inl, inr, flat_map, arith}
use Rattle.mbox_text.proofs.Common.{Entry, Ended, IsMboxText, Mbox, spelling, completed, FromLines}
use Rattle.std.proofs.Common.{subst}
use Rattle.mbox_text.proofs.Reading.Existence.{read_where}
use Rattle.mbox_text.proofs.Reading.OneReading.{mbox-one}
use Rattle.mbox_text.proofs.Written.ReadAgain.{spelled_again}

ended-tail : (c : ℕ) (t : List ℕ) → Ended (c ∷ t) → Ended t
ended-tail c t (inl e) = grind arith
ended-tail c t (inr ([], e)) = inl (grind arith)
ended-tail c t (inr (d ∷ prefix, e)) = inr (prefix, grind arith)

ended-rest : (block rest : List ℕ) → Ended (block ++ rest) → Ended rest
ended-rest [] rest e = e
ended-rest (c ∷ block) rest e = ended-rest block rest (ended-tail c (block ++ rest) e)

-- a block that is not followed by another ends as the text does
block-ended : (block rest : List ℕ) (these : List Entry) → Ended (block ++ rest) → Ended block ⊎ (these ≡ []) → Mbox rest these → Ended block
unfolding Mbox
block-ended block rest these e (inl ends) is = ends
block-ended block rest (entry ∷ these) e (inr none) is = grind arith
block-ended block rest [] e (inr none) is = subst Ended (ap (λ x. block ++ x) is ∙ append-nil block) e

pub joined : (one other : List ℕ) (these those : List Entry) → Ended one → Mbox one these → Mbox other those → Mbox (one ++ other) (these ++ those)
unfolding Mbox
joined one other [] those e is next = rw is next
joined one other (entry ∷ these) those e (block, rest, text, is, ends, more) next =
    let all = subst Ended text e in (
      block,
      rest ++ other,
      ap (λ x. x ++ other) text ∙ append_assoc block rest other,
      is,
      inl (block-ended block rest these all ends more),
      joined rest other these those (ended-rest block rest all) more next,
    )

pub appended : (text : List ℕ) (these those : List Entry) → Ended text → Mbox text these → FromLines those
    → Mbox (text ++ flat_map spelling those) (these ++ map completed those)
appended text these those e is lines = joined text (flat_map spelling those) these (map completed those) e is (spelled_again those lines)

pub grown : (text more : List ℕ) (these all : List Entry) → Ended text → Mbox text these → IsMboxText more → Mbox (text ++ more) all
    → (rest : List Entry) × (all ≡ these ++ rest)
grown text more these all e is begins whole =
    let next = read_where.0 begins in (next.0, mbox-one _ all (these ++ next.0) whole (joined text more these next.0 e is next.1))
