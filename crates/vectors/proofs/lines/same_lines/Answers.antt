use Rattle.std.proofs.Common.{◌≡◌, ℕ, eqb, List, [], ◌∷◌, refl, inl, inr}
use Rattle.std.proofs.lemmas.Bool.{cases_Bool}
use Rattle.mbox_text.specs.Lines as messages
use Rattle.maildir_name.specs.Flags as names
use Rattle.vectors.proofs.lines.same_lines.Goals as goal

onto : (c : ℕ) (ls : List (List ℕ)) → names.onto_first_line c ls ≡ messages.before_first c ls
onto c [] = refl
onto c (l ∷ ls) = refl

same : (text : List ℕ) → names.lines text ≡ messages.lines text
unfolding names.lines messages.lines
same [] = refl
same (c ∷ text) =
    elim (cases_Bool (eqb c 10)) [
      | inl e ↦ rw (e, same text) refl
      | inr e ↦ rw (e, same text) (onto c (messages.lines text))
    ]

pub returns : goal.returns
returns c = λ text. same text
