-- A text with two messages, whose bodies are empty.
use Rattle.std.proofs.Common.{◌≡◌, List, [], ◌∷◌, length, map, codes, refl, inl, arith}
use Rattle.mbox_text.specs.declared.entry.Entry.{Entry}
use Rattle.mbox_text.specs.Lines.{lines}
use Rattle.mbox_text.specs.Quoting.{begins_from}
use Rattle.mbox_text.specs.Spelling.{FromLines, completed, missing_end, spelling}
use Rattle.mbox_text.proofs.Written.ReadAgain.{spelled_again}
use Rattle.maildir_run.proofs.Chains.MessageLemmas.{length-messages_of}
use Rattle.maildir_run.specs.Delivery.{Message}
use Rattle.maildir_run.specs.Several.{IsText, Text}
use Rattle.maildir_run.specs.Texts.{messages_of}

abbrev two : List Entry
two = record { from_line = codes "From a"; body = [] } ∷ record { from_line = codes "From b"; body = [] } ∷ []

abbrev pub example : Text
example = record { bytes = codes "From a\n\nFrom b\n\n"; messages = messages_of ([] ∷ [] ∷ []) }

from_lines : FromLines two
unfolding begins_from
from_lines = ((refl, (refl, (refl, (refl, (refl, (refl, (refl, tt))))))), ((refl, (refl, (refl, (refl, (refl, (refl, (refl, tt))))))), tt))

pub is_example : IsText example
unfolding completed lines missing_end spelling
is_example = record { are = inl (map completed two, spelled_again two from_lines, refl); small = omega arith }

pub example_has_two : length example.messages ≡ 2
example_has_two = length-messages_of ([] ∷ [] ∷ [])

pub two_of : (ms : List Message) → length ms ≡ 2 → (m : Message) × (n : Message) × (ms ≡ m ∷ n ∷ [])
two_of [] e = cc
two_of (m ∷ []) e = cc
two_of (m ∷ n ∷ []) e = (m, n, refl)
two_of (m ∷ n ∷ o ∷ ms) e = cc
