-- How many converter's names tmp has, as other programs act.
use Rattle.std.proofs.Common.{◌≡◌, ℕ, suc, ◌≤◌, ◌-◌, Bool, true, false, cond, List, [], ◌∷◌, map, length, None, refl, sym, ap, ◌∙◌, arith, filter}
use Rattle.maildir_run.proofs.Common.{remove, entries, keys, len, retain_keys, from_sorted, same_map, get-entries, Spared, SparesAll, is_spared_name, base}
use Rattle.maildir_run.proofs.Common.{get-from_sorted, entries-from_sorted, entries_sorted, len-entries, len-remove, is_converter_name}
use Rattle.maildir_run.proofs.Common.{name_cmp, FileMap, Files, Action, acted, leftover_count}
use Rattle.std.specs.FinMap.Entries.{where_key, is_sorted-where_key, find-where_key}
use Rattle.maildir_run.proofs.Names.Maps.{total, same, get_under, under_same, under_remove, under_remove_other}
use Rattle.maildir_run.proofs.Call.Homes.{get-outsiders_of, spared_named}
use Rattle.maildir_run.proofs.Call.Moves.{to_cur_tmp, reflag_tmp}

entries_under : (p : List ℕ → Bool) (m : FileMap) → entries (retain_keys m p) ≡ where_key name_cmp p (entries m)
entries_under p m =
    let es = where_key name_cmp p (entries m) in
    let sorted = is_sorted-where_key name_cmp p (entries m) (entries_sorted m) in
    let is : retain_keys m p ≡ from_sorted es = same_map total same _ _ (λ q.
    get_under p m q ∙ ap (λ o. cond (p q) o None) (get-entries m q)
    ∙ sym (find-where_key name_cmp p q (λ x e. ap p (sym (same q x e))) (entries m))
    ∙ sym (get-from_sorted name_cmp es q sorted)) in
    grind (arith, entries-from_sorted)

keys_filter : (p : List ℕ → Bool) (es : List (List ℕ × List ℕ)) → length (filter p (map (λ e. e.0) es)) ≡ length (where_key name_cmp p es)
keys_filter p [] = refl
keys_filter p (e ∷ es) =
    elim (p e.0) as (λ t. length (cond t (e.0 ∷ filter p (map (λ x. x.0) es)) (filter p (map (λ x. x.0) es)))
    ≡ length (cond t (e ∷ where_key name_cmp p es) (where_key name_cmp p es))) [
      | true ↦ ap suc (keys_filter p es)
      | false ↦ keys_filter p es
    ]

-- the number as a length of the map
pub leftovers_are : (m : FileMap) → length (filter is_converter_name (keys m)) ≡ len (retain_keys m is_converter_name)
leftovers_are m =
    keys_filter is_converter_name (entries m) ∙ sym (len-entries (retain_keys m is_converter_name) ∙ ap length (entries_under is_converter_name m))

one_less : (t : Bool) {n : ℕ} → cond t (n - 1) n ≤ n
one_less t = grind arith

pub dropped_count : (m : FileMap) (name : List ℕ) → len (retain_keys (remove m name) is_converter_name) ≤ len (retain_keys m is_converter_name)
dropped_count m name = grind (arith, under_remove, len-remove, total, one_less, under_remove_other)

-- every name of a converter's is spared
pub all_names : (spared : Spared) → SparesAll spared → (q : List ℕ) → is_converter_name q ≡ true → is_spared_name spared q ≡ true
all_names spared all q ours = spared_named spared (base q) (all (base q) ours) ours

pub acted_count : (spared : Spared) → SparesAll spared → (action : Action) (s : Files)
    → len (retain_keys (acted spared action s).tmp is_converter_name) ≤ len (retain_keys s.tmp is_converter_name)
acted_count spared all action s = grind (arith, to_cur_tmp, reflag_tmp, dropped_count, under_same, get-outsiders_of, all_names spared all)

pub leftovers : (spared : Spared) → SparesAll spared → (action : Action) (s : Files) → leftover_count (acted spared action s) ≤ leftover_count s
leftovers spared all action s = grind (arith, leftovers_are, acted_count)
