-- What the homes of a converter's base hold, after an action of another program.
use Rattle.std.proofs.Common.{◌≡◌, ℕ, true, false, cond, not, List, [], ◌∷◌, ◌++◌, Option, Some, arith}
use Rattle.std.proofs.Common.{None, IsPermutation, IsTrue, refl, sym, ap, ◌∙◌, inl, inr, is_some}
use Rattle.maildir_run.proofs.Common.{get, insert, remove, values, entries, retain_keys, find, get-entries, get-from_entries, get-remove}
use Rattle.maildir_run.proofs.Common.{cases_Bool, and_parts, IsPermutation-refl, IsPermutation-sym, IsPermutation-trans, IsPermutation-middle}
use Rattle.maildir_run.proofs.Common.{IsPermutation-append_left, IsPermutation-append_right, base, is_converter_base}
use Rattle.maildir_run.proofs.Common.{name_cmp, is_name, FileMap, Files, has_base, held_under, homes, Action, Spared, is_spared, is_spared_name}
use Rattle.maildir_run.proofs.Common.{outsiders_of, may_take, acted, Message, IsHome, IsSoundAt, is_any, has_home}
use Rattle.maildir_run.proofs.Names.Maps.{total, is_name-true, get_under, under_same, under_insert, under_insert_other}
use Rattle.maildir_run.proofs.Names.Maps.{under_remove, under_remove_other, values-insert, values-remove}

-- ---- one folder, under one base
pub held_same : (b : List ℕ) (m n : FileMap) → ((q : List ℕ) → has_base b q ≡ true → get m q ≡ get n q) → held_under b m ≡ held_under b n
held_same b m n alike = grind (arith, under_same)

module _ (b : List ℕ) (m : FileMap) (k : List ℕ) where
  pub held-insert_other : (v : List ℕ) → has_base b k ≡ false → held_under b (insert m k v) ≡ held_under b m
  held-insert_other v h = grind (arith, under_insert_other)

  pub held-remove_other : has_base b k ≡ false → held_under b (remove m k) ≡ held_under b m
  held-remove_other h = ap values (under_remove_other (has_base b) m k h)

  pub held-insert_new : (v : List ℕ) → has_base b k ≡ true → get m k ≡ None → IsPermutation (v ∷ held_under b m) (held_under b (insert m k v))
  held-insert_new v h none = grind (arith, under_insert, values-insert, get_under)

  pub held-remove_old : (v : List ℕ) → has_base b k ≡ true → get m k ≡ Some v → IsPermutation (v ∷ held_under b (remove m k)) (held_under b m)
  held-remove_old v h has = grind (arith, under_remove, values-remove, get_under)

-- ---- the outsiders' step
find-both : (q : List ℕ) (xs ys : List (List ℕ × List ℕ)) → find name_cmp q ys ≡ None → find name_cmp q (xs ++ ys) ≡ find name_cmp q xs
find-both q [] ys none = none
find-both q (x ∷ xs) ys none = ap (cond (is_name q x.0) (Some x.1)) (find-both q xs ys none)

-- a name that is spared holds what it held
pub get-outsiders_of : (spared : Spared) (ours theirs : FileMap) (q : List ℕ) → is_spared_name spared q ≡ true
    → get (outsiders_of spared ours theirs) q ≡ get ours q
get-outsiders_of spared ours theirs q h =
    let mine = retain_keys ours (is_spared_name spared) in
    let other = retain_keys theirs (λ n. not (is_spared_name spared n)) in
    let none : find name_cmp q (entries other) ≡ None = sym (get-entries other q) ∙ get_under (λ n. not (is_spared_name spared n)) theirs q ∙ rw h refl in
    get-from_entries total (entries mine ++ entries other) q
    ∙ find-both q (entries mine) _ none
    ∙ sym (get-entries mine q) ∙ get_under (is_spared_name spared) ours q ∙ rw h refl

-- a converter's base of the set is spared
pub spared_named : (spared : Spared) (b : List ℕ) → IsTrue (spared.bases b) → IsTrue (is_converter_base b) → IsTrue (is_spared spared b)
spared_named spared b sp named = rw sp named

-- a name that has a base that is spared is spared
pub converters : (spared : Spared) (b q : List ℕ) → IsTrue (is_spared spared b) → has_base b q ≡ true → is_spared_name spared q ≡ true
converters spared b q named h = ap (is_spared spared) (sym (is_name-true b (base q) h)) ∙ named

pub held-outsiders_of : (spared : Spared) (b : List ℕ) (ours theirs : FileMap) → IsTrue (is_spared spared b)
    → held_under b (outsiders_of spared ours theirs) ≡ held_under b ours
held-outsiders_of spared b ours theirs named = grind (arith, held_same, get-outsiders_of, converters)

-- ---- each action
pub absent : (o : Option (List ℕ)) → not (is_some o) ≡ true → o ≡ None
absent o h = grind arith

abbrev pub KeepsHomesOf : List ℕ → Files → Files → Type 0
KeepsHomesOf b old new = IsPermutation (homes old b) (homes new b)

pub equally : (b : List ℕ) (old new : Files) → homes old b ≡ homes new b → KeepsHomesOf b old new
equally b old new e = grind arith

to_cur_kept : (b : List ℕ) (s : Files) (name target : List ℕ) {bytes : List ℕ} → get s.new name ≡ Some bytes
    → may_take s.cur name target ≡ true → KeepsHomesOf b s (record s { new = remove s.new name; cur = insert s.cur target bytes })
to_cur_kept b s name target {bytes} has may =
    let parts = and_parts _ _ may in
    let free : get s.cur target ≡ None = absent _ parts.0 in
    let alike : has_base b target ≡ has_base b name = ap (is_name b) (sym (is_name-true _ _ parts.1)) in
    elim (cases_Bool (has_base b name)) [
      | inl on ↦
          IsPermutation-trans _ _ _
          (IsPermutation-append_left (held_under b s.cur) _ _ (IsPermutation-sym _ _ (held-remove_old b s.new name bytes on has)))
          (IsPermutation-trans _ _ _
          (IsPermutation-sym _ _ (IsPermutation-middle (held_under b (remove s.new name)) bytes (held_under b s.cur)))
          (IsPermutation-append_right (held_under b (remove s.new name)) _ _ (held-insert_new b s.cur target bytes (alike ∙ on) free)))
      | inr off ↦ grind (arith, held-remove_other, held-insert_other)
    ]

reflag_kept : (b : List ℕ) (s : Files) (name target : List ℕ) {bytes : List ℕ} → get s.cur name ≡ Some bytes
    → may_take s.cur name target ≡ true → KeepsHomesOf b s (record s { cur = insert (remove s.cur name) target bytes })
reflag_kept b s name target {bytes} has may =
    let parts = and_parts _ _ may in
    let free : get s.cur target ≡ None = absent _ parts.0 in
    let alike : has_base b target ≡ has_base b name = ap (is_name b) (sym (is_name-true _ _ parts.1)) in
    let gone : get (remove s.cur name) target ≡ None = grind (arith, get-remove, total) in
    elim (cases_Bool (has_base b name)) [
      | inl on ↦
          IsPermutation-append_right (held_under b s.new) _ _
          (IsPermutation-trans _ _ _
          (IsPermutation-sym _ _ (held-remove_old b s.cur name bytes on has))
          (held-insert_new b (remove s.cur name) target bytes (alike ∙ on) gone))
      | inr off ↦ grind (arith, held-insert_other, held-remove_other)
    ]

pub acted_kept : (spared : Spared) (b : List ℕ) → IsTrue (is_spared spared b) → (action : Action) (s : Files) → KeepsHomesOf b s (acted spared action s)
acted_kept spared b named action s = grind (arith, IsPermutation-refl, to_cur_kept, reflag_kept, equally, held-outsiders_of)

-- ---- messages that were done
pub none_of : (xs : List (List ℕ)) → is_any xs ≡ false → xs ≡ []
none_of [] e = refl
none_of (x ∷ xs) e = cc

pub home_known : (m : Message) (s : Files) → has_home s m.target.base ≡ true → IsSoundAt s m → IsHome s m
home_known m s on h = grind arith
