-- The bases of the targets of one text: this converter's, and distinct.
use Rattle.std.proofs.Common.{◌≡◌, ℕ, ◌+◌, ◌^◌, ◌<◌, ◌≤◌, List, [], ◌∷◌, ◌++◌, length, get_or, take, count_by, rules}
use Rattle.std.proofs.Common.{refl, arith, All, AllPairs, cond, length-take-le}
use Rattle.std.proofs.lemmas.List.{take_more, take-take}
use Rattle.std.proofs.lemmas.List.Sums.{count_by-le-length, sum_by-take-le}
use Rattle.sha2.specs.Sha256.{sha256}
use Rattle.maildir_name.specs.Flags.{flags}
use Rattle.maildir_name.specs.Targets.{numbered, same_digest, target, targets}
use Rattle.maildir_name.proofs.BaseLemmas.{IsNamed, named-under_flags, numbered-converter, under_flags-base, same-digest, same-number}
use Rattle.maildir_name.proofs.NamerLemmas.{count-push}
use Rattle.maildir_name.proofs.TargetLemmas.{length-targets, get_or-targets}

-- the occurrence number of a body that follows others
abbrev pub number_after : List (List ℕ) → List ℕ → ℕ
number_after before body = count_by (same_digest body) (before ++ body ∷ [])

-- an occurrence number counts the body itself, and is at most the number of bodies
pub number_after-is : (before : List (List ℕ)) (body : List ℕ) → number_after before body ≡ count_by (same_digest body) before + 1
number_after-is before body = search (rules, count-push)

pub number_after-le : (before : List (List ℕ)) (body : List ℕ) → number_after before body ≤ length before + 1
number_after-le before body = grind (arith, number_after-is, count_by-le-length)

pub target-base : (before : List (List ℕ)) (body : List ℕ) → (target before body).base ≡ numbered body (number_after before body)
unfolding target
target-base before body = grind (arith, under_flags-base)

pub named-target : (before : List (List ℕ)) (body : List ℕ) → length before < 2 ^ 63 → IsNamed (target before body)
unfolding target
named-target before body few =
    let n = number_after before body in
    let is = number_after-is before body in
    let le = number_after-le before body in
    named-under_flags (target before body) (numbered body n) (flags body) refl (numbered-converter body n (omega (arith, is)) (omega (arith, le)))

pub named-targets : (bodies : List (List ℕ)) → length bodies ≤ 2 ^ 63 → All IsNamed (targets bodies)
named-targets bodies few k d below =
    grind (arith, length-targets bodies, get_or-targets bodies k d, named-target (take k bodies) (get_or bodies k []), length-take-le k bodies)

-- an earlier body with the same digest has a smaller number
earlier-lt : (bodies : List (List ℕ)) (i j : ℕ) → i < j → j < length bodies → sha256 (get_or bodies i []) ≡ sha256 (get_or bodies j [])
    → number_after (take i bodies) (get_or bodies i []) < number_after (take j bodies) (get_or bodies j [])
earlier-lt bodies i j lt in_list e = grind (
  arith,
  take_more bodies i [],
  take-take (i + 1) j bodies,
  sum_by-take-le (λ b. cond (same_digest (get_or bodies j []) b) 1 0) (take j bodies) (i + 1),
  number_after-is (take j bodies),
)

pub distinct-targets : (bodies : List (List ℕ)) → length bodies ≤ 2 ^ 63 → AllPairs (λ one other. one.base ≡ other.base → ⊥) (targets bodies)
distinct-targets bodies few i j d lt below same = grind (
  arith,
  get_or-targets bodies i d,
  get_or-targets bodies j d,
  target-base,
  length-targets bodies,
  number_after-le,
  length-take-le,
  earlier-lt bodies i j lt,
  same-digest,
  same-number,
)
