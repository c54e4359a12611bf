-- An action outside reaches just the states that leave the converter's names as they are.
use Rattle.std.proofs.Common.{◌≡◌, ℕ, true, false, cond, not, List, [], ◌∷◌, ◌++◌, Some, None, refl, sym, ◌∙◌, inl, inr, arith, IsTrue}
use Rattle.maildir_run.proofs.Common.{get, entries, retain_keys, find, get-entries, get-from_entries, same_map, cases_Bool, Spared, is_spared_name}
use Rattle.maildir_run.proofs.Common.{name_cmp, is_name, FileMap, Files, KeepsSpared, outsiders_of, Outside, acted}
use Rattle.maildir_run.proofs.Names.Maps.{total, same, get_under}
use Rattle.maildir_run.proofs.Call.Homes.{get-outsiders_of}
use Rattle.maildir_run.proofs.Common.{and_parts, base, Action, ToCur, Reflag, DropTmp}

find-after : (q : List ℕ) (xs ys : List (List ℕ × List ℕ)) → find name_cmp q xs ≡ None → find name_cmp q (xs ++ ys) ≡ find name_cmp q ys
find-after q [] ys none = refl
find-after q (x ∷ xs) ys none =
    elim (is_name q x.0) as (λ t. cond t (Some x.1) (find name_cmp q xs) ≡ None → cond t (Some x.1) (find name_cmp q (xs ++ ys)) ≡ find name_cmp q ys) [
      | true ↦ λ e. cc
      | false ↦ λ e. find-after q xs ys e
    ] none

pub get-outsiders_other : (spared : Spared) (ours theirs : FileMap) (q : List ℕ) → is_spared_name spared q ≡ false
    → get (outsiders_of spared ours theirs) q ≡ get theirs q
get-outsiders_other spared ours theirs q h =
    let mine = retain_keys ours (is_spared_name spared) in
    let other = retain_keys theirs (λ n. not (is_spared_name spared n)) in
    let none : find name_cmp q (entries mine) ≡ None = sym (get-entries mine q) ∙ get_under (is_spared_name spared) ours q ∙ rw h refl in
    get-from_entries total (entries mine ++ entries other) q
    ∙ find-after q _ (entries other) none
    ∙ sym (get-entries other q) ∙ get_under (λ n. not (is_spared_name spared n)) theirs q ∙ rw h refl

-- where the converter's names agree, it is the other folder
pub outsiders_alike : (spared : Spared) (ours : FileMap) {theirs : FileMap} → ((q : List ℕ) → is_spared_name spared q ≡ true → get ours q ≡ get theirs q)
    → outsiders_of spared ours theirs ≡ theirs
outsiders_alike spared ours {theirs} alike =
    same_map total same _ _ (λ q.
    elim (cases_Bool (is_spared_name spared q)) [
      | inl on ↦ get-outsiders_of spared ours theirs q on ∙ alike q on
      | inr off ↦ get-outsiders_other spared ours theirs q off
    ])

pub outside_leaves : (spared : Spared) (files s : Files) → KeepsSpared spared s (acted spared (Outside files) s)
outside_leaves spared files s = grind (arith, get-outsiders_of)

pub outside_reaches : (spared : Spared) (s t : Files) → KeepsSpared spared s t → acted spared (Outside t) s ≡ t
outside_reaches spared s t alike = grind (arith, outsiders_alike)

-- ---- where fewer bases are spared
fewer_kept : {more fewer : Spared} → ((b : List ℕ) → IsTrue (fewer.bases b) → IsTrue (more.bases b)) → {s t : Files}
    → KeepsSpared more s t → KeepsSpared fewer s t
fewer_kept {more} {fewer} within {s} {t} keeps =
    let spare : (q : List ℕ) → IsTrue (is_spared_name fewer q) → IsTrue (is_spared_name more q) = λ q sp.
    let parts = and_parts _ _ sp in rw (within (base q) parts.0, parts.1) refl in
    record {
      tmp_alike = λ q sp. keeps.tmp_alike q (spare q sp);
      new_alike = λ q sp. keeps.new_alike q (spare q sp);
      cur_alike = λ q sp. keeps.cur_alike q (spare q sp);
    }

pub fewer_spared : (more fewer : Spared) → ((b : List ℕ) → IsTrue (fewer.bases b) → IsTrue (more.bases b)) → (action : Action) (s : Files)
    → (other : Action) × (acted fewer other s ≡ acted more action s)
fewer_spared more fewer within (ToCur name target) s = (ToCur name target, refl)
fewer_spared more fewer within (Reflag name target) s = (Reflag name target, refl)
fewer_spared more fewer within (DropTmp name) s = (DropTmp name, refl)
fewer_spared more fewer within (Outside files) s =
    let t = acted more (Outside files) s in
    (Outside t, outside_reaches fewer s t (fewer_kept within (outside_leaves more files s)))
