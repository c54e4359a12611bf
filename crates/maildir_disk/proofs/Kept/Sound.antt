-- What a run over one text, and what other programs do, leave of a message of any text.
use Rattle.std.proofs.Common.{◌≡◌, ℕ, true, List, [], ◌∷◌, All, Any, Contains, IsTrue, IsPermutation, Result, sym, ap, subst}
use Rattle.std.proofs.Common.{inl, inr, arith, ◌∙◌}
use Rattle.std.proofs.lemmas.List.Folds.{Any-from_list_any}
use Rattle.maildir_disk.proofs.Common.{cases_Bool, All-contains, RunFault, Report, Message, HasHome, IsHome, IsSoundAt, is_any, is_base_of, Files, Action}
use Rattle.maildir_disk.proofs.Common.{acted, all_acted, homes, is_name, KeepsMessages, acted_kept, is_name-true, homes_none, homes_one}
use Rattle.maildir_disk.proofs.Common.{Spared, is_spared, IsSpared}
use Rattle.maildir_run.proofs.Common.{and_parts}

on_same : (n m : Message) (s : Files) → n.target.base ≡ m.target.base → n.body ≡ m.body → IsSoundAt s n → IsSoundAt s m
on_same n m s base body (inl none) = grind arith
on_same n m s base body (inr home) = grind arith

pub moved_sound : (m : Message) (s t : Files) → IsPermutation (homes s m.target.base) (homes t m.target.base) → IsSoundAt s m → IsSoundAt t m
moved_sound m s t kept (inl none) = inl (homes_none _ s t kept none)
moved_sound m s t kept (inr home) = inr (homes_one _ m.body s t kept home)

-- a message that has a home
at_home : (m : Message) (s : Files) → HasHome s m → IsSoundAt s m → IsHome s m
at_home m s has (inl none) = grind arith
at_home m s has (inr home) = home

-- the message that has this base
found_any : (ms : List Message) {b : List ℕ} → Any (λ n. is_name n.target.base b ≡ true) ms → (n : Message) × Contains ms n × (n.target.base ≡ b)
found_any ms {b} (k, x, below, at, holds) = grind (arith, is_name-true)

-- a message whose base has the same body in a run
pub kept_by_run : {spared : Spared} {ms : List Message} {old new : Files} {answer : Result Report RunFault} → KeepsMessages spared ms old answer new
    → (m : Message) → IsTrue (is_spared spared m.target.base) → All (λ n. n.target.base ≡ m.target.base → n.body ≡ m.body) ms
    → (IsSoundAt old m → IsSoundAt new m) × (IsHome old m → IsHome new m)
kept_by_run {spared} {ms} {old} {new} keeps m named alike =
    let b = m.target.base in
    elim (cases_Bool (is_base_of ms b)) [
      | inr off ↦
          let kept = keeps.sound.others b named off in
          (moved_sound m old new kept, homes_one b m.body old new kept)
      | inl on ↦
          let found = found_any ms (Any-from_list_any (λ (n : Message). is_name n.target.base b) ms on) in
          let n = found.0 in
          let body : n.body ≡ m.body = All-contains (λ (o : Message). o.target.base ≡ b → o.body ≡ m.body) ms n alike found.1 found.2 in
          let sp : IsSpared spared n = ap spared.bases found.2 ∙ (and_parts _ _ named).0 in
          let sound : IsSoundAt new m =
          on_same n m new found.2 body (All-contains (λ (o : Message). IsSpared spared o → IsSoundAt new o) ms n keeps.sound.own found.1 sp) in
          let still = All-contains (λ (o : Message). IsSpared spared o → HasHome old o → HasHome new o) ms n keeps.still found.1 sp in (
            λ before. sound,
            λ home. at_home m new
                (subst (λ c. IsTrue (is_any (homes new c))) found.2 (still (subst (λ c. IsTrue (is_any (homes old c))) (sym found.2) (ap is_any home)))) sound,
          )
    ]

-- what other programs do
pub still_sound : (spared : Spared) (m : Message) → IsTrue (is_spared spared m.target.base)
    → (actions : List Action) (s : Files) → IsSoundAt s m → IsSoundAt (all_acted spared actions s) m
still_sound spared m named [] s at = at
still_sound spared m named (action ∷ actions) s at =
    still_sound spared m named actions _ (moved_sound m s (acted spared action s) (acted_kept spared _ named action s) at)
