-- Trees of files, seen as finite maps: what each change leaves.
use Rattle.std.proofs.Common.{◌≡◌, ◌&&◌, vec_len, ℕ, Bool, true, false, cond, List, [], ◌∷◌, map, arith}
use Rattle.std.proofs.Common.{length, Option, Some, None, refl, sym, ap, ◌∙◌, Bor, String, Vec, Global, string_bytes}
use Rattle.std.proofs.Common.{option_map, MatchOption, IfSome, is_eq, nat_cmp, string_cmp, string_eq, bytes_eq}
use Rattle.maildir_run.proofs.Common.{AllZip, each_same, slice_cmp, nat_list_eq_equiv, bytes_decides, get, insert, remove, find, put, empty, entries}
use Rattle.maildir_run.proofs.Common.{keys, len, from_entries, entries-insert, len-empty, len-entries, get-from_entries, get-insert, get-remove}
use Rattle.maildir_run.proofs.Common.{same_map, Less, nil_from_length, length-map, and_parts, eq_by_cmp_equiv, name_cmp, is_name, FileMap}
use lib.Pointwise.{pointwise}
use Rattle.std.specs.Iterator.{Yields}
use Rattle.std.specs.Map.{lookup, keys_of}
use Rattle.std.specs.List.Sorted.{IsStrictlySortedBy}
use Rattle.std.specs.BTreeMap.{BTreeMap, UpdatesBy, get_by_text, IsOrdered}
use Rattle.std.proofs.lemmas.Map.Keys.{sorted_head, sorted_tail}
use Rattle.std.proofs.lemmas.Map.Text.{btree_map_updates_text, is_eq-slice_cmp}
use Rattle.maildir_run.specs.FileTree.{map_of}
use Rattle.maildir_run.proofs.Names.Maps.{total, same}
use Rattle.std.specs.BTreeMap as tree

abbrev Tree : Type 0
Tree = BTreeMap (String Global) (Vec ℕ Global)

abbrev pub bytes_in : Option (Vec ℕ Global) → Option (List ℕ)
bytes_in o = option_map (λ v. v.items) o

-- the query by a text's bytes, as a test of keys
abbrev at_text : List ℕ → String Global → Bool
at_text q k = is_eq (slice_cmp nat_cmp q (string_bytes k))

-- ---- what a tree has under a name
found : (q : List ℕ) (es : List (String Global × Vec ℕ Global))
    → find name_cmp q (map (λ e. (string_bytes e.0, e.1.items)) es) ≡ bytes_in (lookup (at_text q) es)
found q [] = refl
found q (e ∷ es) = grind (arith, is_name q (string_bytes e.0), found q es)

pub get-map_of : (tree : Tree) (q : List ℕ) → get (map_of tree) q ≡ bytes_in (get_by_text tree q)
get-map_of tree q = grind (arith, get-from_entries, total, found)

-- ---- a change under one name
inside : (t : Bool) (w o : Option (Vec ℕ Global)) → bytes_in (cond t w o) ≡ cond t (bytes_in w) (bytes_in o)
inside t w o = grind arith

updated : (m n : Tree) (k : List ℕ) (w : Option (Vec ℕ Global)) → UpdatesBy string_cmp (λ x. slice_cmp nat_cmp k (string_bytes x)) m n w
    → (q : List ℕ) → get (map_of n) q ≡ cond (is_name q k) (bytes_in w) (get (map_of m) q)
updated m n k w updates q =
    get-map_of n q
    ∙ ap bytes_in (btree_map_updates_text k m n w updates q)
    ∙ inside (bytes_eq k q) w (get_by_text m q)
    ∙ ap (λ t. cond t (bytes_in w) (bytes_in (get_by_text m q))) (sym (is_eq-slice_cmp k q) ∙ (eq_by_cmp_equiv total).symm k q)
    ∙ ap (cond (is_name q k) (bytes_in w)) (sym (get-map_of m q))

pub map_of-insert : (m n : Tree) (k : List ℕ) {v : Vec ℕ Global}
    → UpdatesBy string_cmp (λ x. slice_cmp nat_cmp k (string_bytes x)) m n (Some v) → map_of n ≡ insert (map_of m) k v.items
map_of-insert m n k {v} updates = same_map total same _ _ (λ q. updated m n k (Some v) updates q ∙ sym (get-insert total (map_of m) k v.items q))

pub map_of-remove : (m n : Tree) (k : List ℕ) → UpdatesBy string_cmp (λ x. slice_cmp nat_cmp k (string_bytes x)) m n None → map_of n ≡ remove (map_of m) k
map_of-remove m n k updates = same_map total same _ _ (λ q. updated m n k None updates q ∙ sym (get-remove total (map_of m) k q))

-- ---- a tree's entries, in order
abbrev pairs : List (String Global × Vec ℕ Global) → List (List ℕ × List ℕ)
pairs es = map (λ e. (string_bytes e.0, e.1.items)) es

put_first : (e : String Global × Vec ℕ Global) (es : List (String Global × Vec ℕ Global))
    → IsStrictlySortedBy string_cmp (keys_of (e ∷ es)) → put name_cmp (string_bytes e.0) e.1.items (pairs es) ≡ pairs (e ∷ es)
put_first e [] ordered = refl
put_first e (x ∷ es) ordered =
    let before : name_cmp (string_bytes e.0) (string_bytes x.0) ≡ Less = (sorted_head string_cmp e.0 (keys_of (x ∷ es)) ordered).0 in
    rw before refl

no_entries : (m : FileMap) → len m ≡ 0 → entries m ≡ []
no_entries m e = nil_from_length (entries m) (sym (len-entries m) ∙ e)

ordered_entries : (es : List (String Global × Vec ℕ Global)) → IsStrictlySortedBy string_cmp (keys_of es)
    → entries (from_entries {R = name_cmp} (pairs es)) ≡ pairs es
ordered_entries [] ordered = no_entries empty (len-empty name_cmp (List ℕ))
ordered_entries (e ∷ es) ordered =
    entries-insert total (from_entries (pairs es)) (string_bytes e.0) e.1.items
    ∙ ap (put name_cmp (string_bytes e.0) e.1.items) (ordered_entries es (sorted_tail string_cmp e.0 (keys_of es) ordered))
    ∙ put_first e es ordered

names_in_order : (es : List (String Global × Vec ℕ Global)) → map (λ e. e.0) (pairs es) ≡ map string_bytes (keys_of es)
names_in_order [] = refl
names_in_order (e ∷ es) = ap (λ xs. string_bytes e.0 ∷ xs) (names_in_order es)

pub keys-map_of : (m : Tree) → IsOrdered string_cmp m → keys (map_of m) ≡ map string_bytes (tree.keys m)
keys-map_of m ordered = grind (arith, ordered_entries, names_in_order)

pub len-map_of : (m : Tree) → IsOrdered string_cmp m → len (map_of m) ≡ length m.entries
len-map_of m ordered = grind (arith, len-entries, ordered_entries, length-map)

-- ---- a copy of a tree
pub copied_pairs : (es fs : List (String Global × Vec ℕ Global))
    → AllZip (λ p q. (string_bytes q.0 ≡ string_bytes p.0) × (AllZip (λ x y. y ≡ x) p.1.items q.1.items × (vec_len q.1 ≡ vec_len p.1))) es fs
    → pairs fs ≡ pairs es
copied_pairs [] [] h = refl
copied_pairs [] (f ∷ fs) h = absurd h
copied_pairs (e ∷ es) [] h = absurd h
copied_pairs (e ∷ es) (f ∷ fs) h =
    ap (λ name. (name, f.1.items) ∷ pairs fs) h.0.0
    ∙ ap (λ bytes. (string_bytes e.0, bytes) ∷ pairs fs) (each_same e.1.items f.1.items h.0.1.0)
    ∙ ap (λ ps. (string_bytes e.0, e.1.items) ∷ ps) (copied_pairs es fs h.1)

-- ---- two trees
bytes_alike : {xs ys : List ℕ} → xs ≡ ys → bytes_eq xs ys ≡ true
bytes_alike {xs} e = ap (bytes_eq xs) (sym e) ∙ nat_list_eq_equiv.refl xs

abbrev same_pair : String Global × Vec ℕ Global → String Global × Vec ℕ Global → Bool
same_pair e f = string_eq e.0 f.0 && bytes_eq e.1.items f.1.items

abbrev pair : String Global × Vec ℕ Global → List ℕ × List ℕ
pair e = (string_bytes e.0, e.1.items)

alike_pairs : (es fs : List (String Global × Vec ℕ Global)) → pointwise same_pair es fs ≡ true → pairs es ≡ pairs fs
alike_pairs [] [] same = refl
alike_pairs [] (f ∷ fs) same = cc
alike_pairs (e ∷ es) [] same = cc
alike_pairs (e ∷ es) (f ∷ fs) same =
    let parts = and_parts _ _ same in
    let here = and_parts _ _ parts.0 in
    ap (λ name. (name, e.1.items) ∷ pairs es) ((bytes_decides (string_bytes e.0) (string_bytes f.0)).0 here.0)
    ∙ ap (λ bytes. (string_bytes f.0, bytes) ∷ pairs es) ((bytes_decides e.1.items f.1.items).0 here.1)
    ∙ ap (λ ps. (string_bytes f.0, f.1.items) ∷ ps) (alike_pairs es fs parts.1)

pairs_alike : (es fs : List (String Global × Vec ℕ Global)) → pairs es ≡ pairs fs → pointwise same_pair es fs ≡ true
pairs_alike [] [] alike = refl
pairs_alike [] (f ∷ fs) alike = cc
pairs_alike (e ∷ es) [] alike = cc
pairs_alike (e ∷ es) (f ∷ fs) alike =
    let here : pair e ≡ pair f = cc in
    let rest : pairs es ≡ pairs fs = cc in
    rw (bytes_alike (ap (λ p. p.0) here), bytes_alike (ap (λ p. p.1) here)) (pairs_alike es fs rest)

pub trees_alike : (m n : Tree) → pointwise same_pair m.entries n.entries ≡ true → map_of m ≡ map_of n
trees_alike m n same = ap from_entries (alike_pairs _ _ same)

pub alike_trees : (m n : Tree) → IsOrdered string_cmp m → IsOrdered string_cmp n → map_of m ≡ map_of n → pointwise same_pair m.entries n.entries ≡ true
alike_trees m n m_ordered n_ordered same = grind (arith, pairs_alike, ordered_entries)

-- ---- the names of two trees, one after the other
abbrev Step : List (String Global) → Option (Bor (String Global)) → List (String Global) → Type 0
Step s r t = MatchOption r ((s ≡ []) × (t ≡ [])) (λ name. s ≡ name.now ∷ t)

abbrev Last : Option (Bor (String Global)) → Option (Bor (String Global)) → Bool → Type 0
Last o p r = MatchOption o (MatchOption p (r ≡ true) (λ _. r ≡ false)) (λ x. (r ≡ false) × IfSome p (λ y. string_eq x.now y.now ≡ false))

abbrev TellsSame : Bool → List (String Global) → List (String Global) → Type 0
TellsSame r s t = (r ≡ true → map string_bytes s ≡ map string_bytes t) × (map string_bytes s ≡ map string_bytes t → r ≡ true)

last_names : (s t u v : List (String Global)) (o p : Option (Bor (String Global))) {r : Bool} → Step s o u → Step t p v → Last o p r → TellsSame r s t
last_names s t u v o p first then last = grind (arith, bytes_alike)

pub names_compared : (s t s' t' u v : List (String Global)) (xs ys : List (Bor (String Global))) (o p : Option (Bor (String Global))) {r : Bool}
    → Yields Step s xs s' → Step s' o u → Yields Step t ys t' → Step t' p v
    → AllZip (λ (x y : Bor (String Global)). string_eq x.now y.now ≡ true) xs ys → Last o p r → TellsSame r s t
names_compared s t s' t' u v [] [] o p {r} from_s ends_s from_t ends_t same last =
    last_names s t u v o p (rw from_s ends_s) (rw from_t ends_t) last
names_compared s t s' t' u v [] (y ∷ ys) o p from_s ends_s from_t ends_t same last = absurd same
names_compared s t s' t' u v (x ∷ xs) [] o p from_s ends_s from_t ends_t same last = absurd same
names_compared s t s' t' u v (x ∷ xs) (y ∷ ys) o p {r} (j, first_s, from_s) ends_s (k, first_t, from_t) ends_t same last =
    let rest = names_compared j k s' t' u v xs ys o p from_s ends_s from_t ends_t same.1 last in
    let a = ap (map string_bytes) first_s in
    let b = ap (map string_bytes) first_t in
    let name : string_bytes x.now ≡ string_bytes y.now = (bytes_decides (string_bytes x.now) (string_bytes y.now)).0 same.0 in
    grind arith
