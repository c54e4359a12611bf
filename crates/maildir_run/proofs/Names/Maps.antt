-- Folders by what they hold under a test of their names.
use Rattle.std.proofs.Common.{◌≡◌, ℕ, Bool, true, false, cond, List, [], ◌∷◌, map, Option, Some, None}
use Rattle.std.proofs.Common.{IsPermutation, refl, sym, ap, subst, ◌∙◌, arith, is_some, is_eq, Ordering}
use Rattle.maildir_run.proofs.Common.{get, insert, remove, values, retain_keys, find, put, entries-insert, get-entries, get-insert}
use Rattle.maildir_run.proofs.Common.{get-remove, get-retain_keys, same_map, IsAntisymmetric, slice_cmp-IsAntisymmetric, nat_cmp-IsAntisymmetric}
use Rattle.maildir_run.proofs.Common.{nat_list_cmp_total, eq_by_cmp_equiv, Less, Equal, Greater, IsPermutation-refl, IsPermutation-sym}
use Rattle.maildir_run.proofs.Common.{IsPermutation-trans, IsPermutation-cons, IsPermutation-middle, name_cmp, is_name, FileMap}
use Rattle.std.specs.FinMap.Entries.{by_order}
use Rattle.std.specs.Cmp.{IsTotalOrder}

pub total : IsTotalOrder name_cmp
total = nat_list_cmp_total

pub same : IsAntisymmetric name_cmp
same = slice_cmp-IsAntisymmetric nat_cmp-IsAntisymmetric

equal_of : (r : Ordering) → is_eq r ≡ true → r ≡ Equal
equal_of r e = grind arith

pub is_name-true : (a b : List ℕ) → is_name a b ≡ true → a ≡ b
is_name-true a b e = same a b (equal_of _ e)

pub is_name-refl : (a : List ℕ) → is_name a a ≡ true
is_name-refl a = (eq_by_cmp_equiv total).refl a

pub get_under : (p : List ℕ → Bool) (m : FileMap) (q : List ℕ) → get (retain_keys m p) q ≡ cond (p q) (get m q) None
get_under p m q = grind (arith, get-retain_keys, same)

pub get_inserted : (m : FileMap) (k v q : List ℕ) → get (insert m k v) q ≡ cond (is_name q k) (Some v) (get m q)
get_inserted m k v q = get-insert total m k v q

pub get_removed : (m : FileMap) (k q : List ℕ) → get (remove m k) q ≡ cond (is_name q k) None (get m q)
get_removed m k q = get-remove total m k q

-- a test passes alike at one name
pub alike : (p : List ℕ → Bool) (q k : List ℕ) → is_name q k ≡ true → p q ≡ p k
alike p q k e = ap p (is_name-true q k e)

pub none_if_not_some : {X : Type 0} (o : Option X) → is_some o ≡ false → o ≡ None
none_if_not_some o e = grind arith

-- two folders that answer alike under the test hold the same there
pub under_same : (p : List ℕ → Bool) (m n : FileMap) → ((q : List ℕ) → p q ≡ true → get m q ≡ get n q) → retain_keys m p ≡ retain_keys n p
under_same p m n agree = same_map total same _ _ (λ q. grind (arith, get_under, agree q))

-- ---- as one name is set or removed
module _ (p : List ℕ → Bool) (m : FileMap) (k : List ℕ) where
  pub under_insert : (v : List ℕ) → p k ≡ true → retain_keys (insert m k v) p ≡ insert (retain_keys m p) k v
  under_insert v h = same_map total same _ _ (λ q. grind (arith, get_under, get_inserted, alike p q k))

  pub under_remove : p k ≡ true → retain_keys (remove m k) p ≡ remove (retain_keys m p) k
  under_remove h = same_map total same _ _ (λ q. grind (arith, get_under, get_removed))

  pub under_insert_other : (v : List ℕ) → p k ≡ false → retain_keys (insert m k v) p ≡ retain_keys m p
  under_insert_other v h = same_map total same _ _ (λ q. grind (arith, get_under, get_inserted, alike p q k))

  pub under_remove_other : p k ≡ false → retain_keys (remove m k) p ≡ retain_keys m p
  under_remove_other h = same_map total same _ _ (λ q. grind (arith, get_under, get_removed, alike p q k))

pub get-insert_same : (m : FileMap) (k v : List ℕ) → get (insert m k v) k ≡ Some v
get-insert_same m k v = rw (get_inserted m k v k, is_name-refl k) refl

pub get-remove_same : (m : FileMap) (k : List ℕ) → get (remove m k) k ≡ None
get-remove_same m k = rw (get_removed m k k, is_name-refl k) refl

pub put_back : {m : FileMap} (k : List ℕ) {v : List ℕ} → get m k ≡ Some v → m ≡ insert (remove m k) k v
put_back k has = same_map total same _ _ (λ q. grind (arith, get_removed, get_inserted, is_name-true))

pub put_away : {m : FileMap} (k v : List ℕ) → get m k ≡ None → remove (insert m k v) k ≡ m
put_away k v none = same_map total same _ _ (λ q. grind (arith, get_removed, get_inserted, is_name-true))

pub remove-insert : (m : FileMap) (name target bytes : List ℕ) → is_name name target ≡ false
    → remove (insert m target bytes) name ≡ insert (remove m name) target bytes
remove-insert m name target bytes differ = same_map total same _ _ (λ q. grind (arith, get_removed, get_inserted, alike (λ n. is_name n target) q name))

-- ---- what a folder holds, as one more file comes or goes
abbrev the_values : List (List ℕ × List ℕ) → List (List ℕ)
the_values es = map (λ e. e.1) es

put_new : (k : List ℕ) {v : List ℕ} (es : List (List ℕ × List ℕ)) → find name_cmp k es ≡ None
    → IsPermutation (v ∷ the_values es) (the_values (put name_cmp k v es))
put_new k [] none = IsPermutation-refl _
put_new k {v} (e ∷ es) none =
    elim (name_cmp k e.0) as (λ r. cond (is_eq r) (Some e.1) (find name_cmp k es) ≡ None
    → IsPermutation (v ∷ e.1 ∷ the_values es) (the_values (by_order r ((k, v) ∷ e ∷ es) ((e.0, v) ∷ es) (e ∷ put name_cmp k v es)))) [
      | Less ↦ λ none. IsPermutation-refl _
      | Equal ↦ λ none. cc
      | Greater ↦ λ none. IsPermutation-trans _ _ _ (IsPermutation-sym _ _ (IsPermutation-middle (e.1 ∷ []) v (the_values es)))
          (IsPermutation-cons e.1 _ _ (put_new k es none))
    ] none

pub values-insert : (m : FileMap) (k : List ℕ) {v : List ℕ} → get m k ≡ None → IsPermutation (v ∷ values m) (values (insert m k v))
values-insert m k {v} none = rw (entries-insert total m k v) (put_new k _ (sym (get-entries m k) ∙ none))

pub values-remove : (m : FileMap) (k : List ℕ) {v : List ℕ} → get m k ≡ Some v → IsPermutation (v ∷ values (remove m k)) (values m)
values-remove m k {v} has =
    subst (λ n. IsPermutation (v ∷ values (remove m k)) (values n)) (sym (put_back k has)) (values-insert _ k (get-remove_same m k))
