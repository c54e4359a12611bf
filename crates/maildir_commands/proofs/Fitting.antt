-- Texts that fit into one Maildir, as a mailbox that grew and what it was.
use Rattle.std.proofs.Common.{◌≡◌, ℕ, ◌≤◌, List, ◌++◌, length, take, take-take, map, All, AllPairs, sym, ap, subst, ◌∙◌, inl, inr, arith}
use Rattle.std.proofs.lemmas.List.{map-append, take-append-le, take-map}
use Rattle.mbox_text.specs.declared.entry.Entry.{Entry}
use Rattle.mbox_text.specs.Mbox.{Mbox}
use Rattle.mbox_text.proofs.Written.Joined.{grown}
use Rattle.maildir_name.proofs.BaseLemmas.{numbered-digits}
use Rattle.maildir_run.proofs.Chains.BaseNumbers.{AreNumbered}
use Rattle.maildir_run.specs.Delivery.{Message}
use Rattle.maildir_run.specs.Texts.{bodies_of}
use Rattle.maildir_commands.proofs.Common.{All-take, AreAlike, AreFit, HasItsMessages, Text, cases_order, get_or-take, get_or_default}
use Rattle.maildir_commands.proofs.Common.{length-map, length-take, take_all}
use Rattle.maildir_commands.proofs.SameMessages.{AreSame, all_same, bases_same, body_of, own_alike, turned}
use Rattle.maildir_commands.specs.Machines.{DifferInDigests, FitTogether, HasGrown}

alike_turned : (ms ns : List Message) → AreAlike ms ns → AreAlike ns ms
alike_turned ms ns alike k d below j e inside same = sym (alike j e inside k d below (sym same))

-- the digits of a base are those of its body's digest
differing : {one other : Text} → HasItsMessages one → HasItsMessages other → DifferInDigests one other → AreAlike one.messages other.messages
differing {one} {other} is are differ k d below j e inside same =
    let digits = sym (numbered-digits _ _) ∙ (ap (take 64) (sym (is.bases k d below) ∙ (sym same ∙ are.bases j e inside)) ∙ numbered-digits _ _) in
    sym (differ k d below j e inside digits)

first_numbered : (n : ℕ) (ms : List Message) → n ≤ length ms → AreNumbered ms → AreNumbered (take n ms)
first_numbered n ms le are k d below = grind (arith, are, get_or-take, take-take, length-take)

-- the first messages of a text that has grown are those that it had
module _ {earlier text : Text} (was : HasItsMessages earlier) (is : HasItsMessages text) (has : HasGrown earlier text) where
  abbrev first : List Message
  first = take (length earlier.messages) text.messages

  first_bodies : (these all : List Entry) → Mbox earlier.bytes these → map body_of earlier.messages ≡ bodies_of these
      → Mbox text.bytes all → map body_of text.messages ≡ bodies_of all → map body_of earlier.messages ≡ map body_of first
  first_bodies these all reads bodies reads_all all_bodies =
      let rest = grown earlier.bytes has.0 these all has.1 reads has.3 (subst (λ t. Mbox t all) has.2 reads_all) in
      let many : length earlier.messages ≡ length (bodies_of these) = sym (length-map earlier.messages body_of) ∙ ap length bodies in
      let parts : map body_of text.messages ≡ bodies_of these ++ bodies_of rest.0 =
      all_bodies ∙ (ap bodies_of rest.1 ∙ map-append (λ (entry : Entry). entry.body) these rest.0) in
      let front : take (length earlier.messages) (map body_of text.messages) ≡ bodies_of these =
      ap (take (length earlier.messages)) parts
      ∙ (take-append-le (length earlier.messages) (bodies_of these) (bodies_of rest.0) (omega (arith, many))
      ∙ take_all (length earlier.messages) (bodies_of these) (omega (arith, many))) in
      bodies ∙ (sym front ∙ take-map body_of (length earlier.messages) text.messages)

  with_first : map body_of earlier.messages ≡ map body_of first → AreAlike earlier.messages text.messages
  with_first bodies =
      let many : length earlier.messages ≡ length first = sym (length-map earlier.messages body_of) ∙ (ap length bodies ∙ length-map first body_of) in
      let le : length earlier.messages ≤ length text.messages = omega (arith, many, length-take (length earlier.messages) text.messages) in
      let same : AreSame first earlier.messages = turned (record {
        bases = bases_same _ _ bodies was.bases (first_numbered _ _ le is.bases);
        bodies = bodies;
      }) in
      all_same same (λ b body. All (λ (n : Message). n.target.base ≡ b → n.body ≡ body) text.messages)
      (All-take (λ (m : Message). All (λ (n : Message). n.target.base ≡ m.target.base → n.body ≡ m.body) text.messages) _ _ (own_alike is))

  with_earlier : AreAlike earlier.messages text.messages
  with_earlier = elim was.bodies [
    | inr (_, none) ↦ rw none (λ k d below. absurd (omega (arith, below)))
    | inl (these, reads, bodies) ↦ elim is.bodies [
      | inr (_, none) ↦ rw none (λ k d below j e inside. absurd (omega (arith, inside)))
      | inl (all, reads_all, all_bodies) ↦ with_first (first_bodies these all reads bodies reads_all all_bodies)
    ]
  ]

alike : {one other : Text} → HasItsMessages one → HasItsMessages other → FitTogether one other → AreAlike one.messages other.messages
alike is are (inl has) = with_earlier is are has
alike is are (inr (inl has)) = alike_turned _ _ (with_earlier are is has)
alike is are (inr (inr differ)) = differing is are differ

pub fit : (texts : List Text) → All HasItsMessages texts → AllPairs FitTogether texts → AreFit texts
fit texts are pairs = record {
  are = are;
  alike = λ k d below j e inside. elim (cases_order k j) [
    | inl same ↦ rw (same, get_or_default texts j d e inside) (own_alike (are j e inside))
    | inr (inl lt) ↦
        rw (get_or_default texts k d e below) (alike (are k e below) (are j e inside) (pairs k j e lt inside))
    | inr (inr lt) ↦
        rw (get_or_default texts k d e below) (alike_turned _ _ (alike (are j e inside) (are k e below) (pairs j k e lt below)))
  ];
}
