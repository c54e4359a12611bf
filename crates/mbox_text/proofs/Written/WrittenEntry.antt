-- The spelling of a message, in the parts in which it is written.
use Rattle.mbox_text.proofs.Common.{◌≡◌, ℕ, List, [], ◌∷◌, ◌++◌, refl, flat_map, Entry, lines, quoted, missing_end, spelling}

pub spelling_parts : (entry : Entry) {line body missing : List ℕ} → line ≡ entry.from_line → body ≡ entry.body → missing ≡ missing_end entry.body
    → spelling entry ≡ line ++ ((10 ∷ []) ++ (flat_map quoted (lines body) ++ (missing ++ 10 ∷ [])))
unfolding spelling
spelling_parts entry e f g = rw (e, f, g) refl
