-- What a power cut leaves of a message if it leaves no file under two names.
use Rattle.std.proofs.Common.{◌≡◌, ℕ, ◌≤◌, List, [], ◌∷◌, ◌⊎◌, length, IsTrue, ap, inl, inr, arith, refl, Contains}
use Rattle.maildir_disk.proofs.Common.{Message, IsHome, IsSoundAt, Files, homes, IsIntact, HasBody, IsSingle, Spared, is_spared}
use Rattle.maildir_disk.proofs.Left.LeftHomes.{none_in, first_in}
use Rattle.maildir_disk.specs.PowerCuts.{LeavesOneEach}

only_one : {x : List ℕ} (ys : List (List ℕ)) → length ys ≤ 1 → ((y : List ℕ) → Contains ys y → y ≡ x) → (ys ≡ []) ⊎ (ys ≡ x ∷ [])
only_one [] few all = inl refl
only_one (y ∷ []) few all = inr (ap (λ z. z ∷ []) (all y (first_in [])))
only_one (y ∷ z ∷ ys) few all = absurd (omega (arith, few))

the_one : {x : List ℕ} (ys : List (List ℕ)) → length ys ≤ 1 → Contains ys x → ys ≡ x ∷ []
the_one [] few has = absurd (none_in has)
the_one (y ∷ []) few has = grind arith
the_one (y ∷ z ∷ ys) few has = absurd (omega (arith, few))

at_most_one : (m : Message) (s : Files) → IsSoundAt s m → length (homes s m.target.base) ≤ 1
at_most_one m s (inl none) = grind arith
at_most_one m s (inr one) = grind arith

few_left : (spared : Spared) (m : Message) → IsTrue (is_spared spared m.target.base)
    → (s left : Files) → IsSoundAt s m → IsIntact spared left m → IsSingle spared s left → length (homes left m.target.base) ≤ 1
few_left spared m named s left sound intact (inl whole) = intact.once whole
few_left spared m named s left sound intact (inr each) = each m.target.base named (at_most_one m s sound)

pub single_sound : (spared : Spared) (m : Message) → IsTrue (is_spared spared m.target.base)
    → (s left : Files) → IsSoundAt s m → IsIntact spared left m → IsSingle spared s left → IsSoundAt left m
single_sound spared m named s left sound intact single =
    only_one (homes left m.target.base) (few_left spared m named s left sound intact single) intact.holds

pub each_home : (spared : Spared) (m : Message) → IsTrue (is_spared spared m.target.base) → (s left : Files) → IsHome s m → HasBody left m
    → LeavesOneEach spared s left → IsHome left m
each_home spared m named s left home has each = the_one _ (each m.target.base named (at_most_one m s (inr home))) has

pub whole_home : (spared : Spared) (m : Message) (left : Files) → IsTrue spared.whole → IsIntact spared left m → HasBody left m → IsHome left m
whole_home spared m left whole intact has = the_one _ (intact.once whole) has

pub single_home : (spared : Spared) (m : Message) → IsTrue (is_spared spared m.target.base) → (s left : Files) → IsHome s m
    → IsIntact spared left m → HasBody left m → IsSingle spared s left → IsHome left m
single_home spared m named s left home intact has single = the_one _ (few_left spared m named s left (inr home) intact single) has
