-- Sets of bases: what each change leaves in them.
use Rattle.std.proofs.Common.{◌≡◌, ℕ, Bool, true, cond, ◌||◌, List, [], ◌∷◌, ◌++◌, map, Option, Some, refl, sym, arith}
use Rattle.std.proofs.Common.{ap, ◌∙◌, Bor, take, get_or, length, ◌<◌, ◌+◌, String, Global, string_bytes, is_some, nat_cmp}
use Rattle.maildir_run.proofs.Common.{list_any, slice_cmp, insert, empty, contains_key, find, get-from_entries, get-insert, get-empty, same_map, or-false}
use Rattle.maildir_run.proofs.Common.{map-append, take_more, eq_by_cmp_equiv, base, name_cmp, is_name, has_base, is_listed, BaseSet, set_of, with_bases}
use Rattle.std.specs.BTreeSet.{BTreeSet, UpdatesBy}
use Rattle.maildir_run.proofs.Names.Maps.{total, same}

-- ---- the set that some texts make
found : (b : List ℕ) (ks : List (Bor (List ℕ))) → is_some (find name_cmp b (map (λ k. (k.now, tt {0})) ks)) ≡ list_any (λ k. is_name b k.now) ks
found b [] = refl
found b (k ∷ ks) = grind (arith, is_name b k.now, found b ks)

pub contains_key-set_of : (b : List ℕ) (ks : List (Bor (List ℕ))) → contains_key (set_of ks) b ≡ list_any (λ k. is_name b k.now) ks
contains_key-set_of b ks = grind (arith, get-from_entries, total, found)

-- ---- one more base
unit_options : (o p : Option (Unit {0})) → is_some o ≡ is_some p → o ≡ p
unit_options o p e = grind arith

some_if : (t : Bool) (o : Option (Unit {0})) → is_some (cond t (Some (tt {0})) o) ≡ cond t true (is_some o)
some_if t o = grind arith

abbrev text_of : List ℕ → Bor (List ℕ)
text_of b = record { ref_ptr = (0, 0); now = b }

pub set_of-insert : (old new : BTreeSet (Bor (List ℕ))) (k : List ℕ)
    → UpdatesBy (λ x y. slice_cmp nat_cmp x.now y.now) (λ x. slice_cmp nat_cmp k x.now) old new true → set_of new.keys ≡ insert (set_of old.keys) k (tt {0})
set_of-insert old new k updates =
    same_map total same _ _ (λ q. unit_options _ _
    (contains_key-set_of q new.keys
    ∙ updates.0 (text_of q)
    ∙ ap (λ t. cond t true (list_any (λ x. is_name q x.now) old.keys)) ((eq_by_cmp_equiv total).symm k q)
    ∙ ap (cond (is_name q k) true) (sym (contains_key-set_of q old.keys))
    ∙ sym (some_if (is_name q k) _)
    ∙ ap is_some (sym (get-insert total (set_of old.keys) k (tt {0}) q))))

-- ---- the bases of two lists
contains_key-insert : (s : BaseSet) (k b : List ℕ) → contains_key (insert s k (tt {0})) b ≡ (is_name b k || contains_key s b)
contains_key-insert s k b = grind (arith, get-insert, total)

turned : (a s rest : Bool) → ((a || s) || rest) ≡ (s || (a || rest))
turned a s rest = grind arith

pub contains_key-with_bases : (s : BaseSet) (names : List (List ℕ)) (b : List ℕ)
    → contains_key (with_bases s names) b ≡ (contains_key s b || list_any (has_base b) names)
contains_key-with_bases s [] b = sym (or-false (contains_key s b))
contains_key-with_bases s (name ∷ names) b =
    contains_key-with_bases (insert s (base name) (tt {0})) names b
    ∙ ap (λ t. t || list_any (has_base b) names) (contains_key-insert s (base name) b)
    ∙ turned (is_name b (base name)) (contains_key s b) _

pub contains_key-listed : (new cur : List (List ℕ)) (b : List ℕ) → contains_key (with_bases (with_bases empty new) cur) b ≡ is_listed new cur b
contains_key-listed new cur b = grind (arith, contains_key-with_bases, get-empty)

pub with_bases-push : (s : BaseSet) (names : List (List ℕ)) (name : List ℕ)
    → with_bases s (names ++ name ∷ []) ≡ insert (with_bases s names) (base name) (tt {0})
with_bases-push s [] name = refl
with_bases-push s (x ∷ names) name = with_bases-push (insert s (base x) (tt {0})) names name

-- one more name of a list
pub with_bases-more : (names : List (String Global)) {i : ℕ} (d : String Global) (old : BaseSet) {s now : BaseSet}
    → i < length names → s ≡ with_bases old (map string_bytes (take i names))
    → now ≡ insert s (base (string_bytes (get_or names i d))) (tt {0}) → now ≡ with_bases old (map string_bytes (take (i + 1) names))
with_bases-more names {i} d old h is added =
    added
    ∙ ap (λ x. insert x (base (string_bytes (get_or names i d))) (tt {0})) is
    ∙ sym (with_bases-push old (map string_bytes (take i names)) (string_bytes (get_or names i d)))
    ∙ ap (with_bases old) (sym (ap (map string_bytes) (take_more names i d h) ∙ map-append string_bytes (take i names) (get_or names i d ∷ [])))
