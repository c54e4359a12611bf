-- The counts of a namer, and the bodies that it has named.
use Rattle.std.proofs.Common.{◌≡◌, ℕ, ◌+◌, ◌-◌, ◌^◌, ◌<◌, min, Bool, cond, List, [], ◌∷◌, ◌++◌, rules, length, count_by, add-zero, arith, decimal, bytes_eq}
use Rattle.std.proofs.lemmas.Bool.{cases_Bool}
use Rattle.std.proofs.lemmas.List.Sums.{count_by-le-length, sum_by_push}
use Rattle.sha2.specs.Sha256.{sha256}
use Rattle.hex.specs.Hex.{encode_lower}
use Rattle.maildir_name.specs.declared.flags.Flags.{Flags}
use Rattle.maildir_name.specs.declared.target.Target.{Target}
use Rattle.maildir_name.specs.Flags.{flags}
use Rattle.maildir_name.specs.Named.{Counts, Named, count_of}
use Rattle.maildir_name.specs.Targets.{numbered, same_digest, under_flags, target, targets}
use Rattle.maildir_name.proofs.BaseLemmas.{IsNamed, named-under_flags, numbered-converter}
use Rattle.maildir_name.proofs.TargetLemmas.{targets-push}

pub count-push : {X : Type 0} (p : X → Bool) (xs : List X) (x : X) → count_by p (xs ++ x ∷ []) ≡ count_by p xs + cond (p x) 1 0
count-push p xs x = sum_by_push (λ y. cond (p y) 1 0) xs x

-- how the counts change with one more body
pub record Counted (body digest : List ℕ) (count number : ℕ) (old new : Counts) : Type 0 where
  pub digest_is : digest ≡ sha256 body
  pub count_is : count ≡ count_of old digest
  pub number_is : number ≡ min (count + 1) (2 ^ 64 - 1)
  pub set : (other : List ℕ) → count_of new other ≡ cond (bytes_eq digest other) number (count_of old other)

module _ {bodies : List (List ℕ)} {body digest : List ℕ} {count number : ℕ} {old new : Counts}
    (c : Counted body digest count number old new) (held : Named bodies old) (small : length bodies < 2 ^ 63) where
  -- the number that the namer gives is the one in the target
  number-counted : number ≡ count_by (same_digest body) (bodies ++ body ∷ [])
  number-counted = search (rules, count-push, count_by-le-length)

  -- the new counts are those of all bodies with this one
  named-counted : Named (bodies ++ body ∷ []) new
  named-counted = search (rules, count-push, cases_Bool, number-counted, add-zero)

  -- the target that the namer makes is the next of `targets`
  pub next-counted : {base : List ℕ} {f : Flags} {t : Target} → base ≡ encode_lower digest ++ 46 ∷ decimal number → f ≡ flags body → t ≡ under_flags base f
      → (targets (bodies ++ body ∷ []) ≡ targets bodies ++ t ∷ []) × Named (bodies ++ body ∷ []) new
  unfolding target
  next-counted {base} {t} eb ef et = grind (arith, number-counted, targets-push, named-counted)

-- the base of the target is this converter's
pub named-counted-base : (body : List ℕ) {digest base : List ℕ} (count : ℕ) {number : ℕ} (f : Flags) {t : Target}
    → digest ≡ sha256 body → number ≡ min (count + 1) (2 ^ 64 - 1)
    → base ≡ encode_lower digest ++ 46 ∷ decimal number → t ≡ under_flags base f → IsNamed t
named-counted-base body {base} count {number} f {t} ed en eb et =
    let b : base ≡ numbered body number = rw (← ed) eb in
    named-under_flags t base f et (rw b (numbered-converter body number (omega arith) (omega arith)))
