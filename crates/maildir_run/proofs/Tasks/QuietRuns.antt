-- What a run's calls leave in a quiet folder.
use Rattle.std.proofs.Common.{◌≡◌, ℕ, Bool, false, cond, not, List, [], ◌∷◌, map, Option, Some, arith}
use Rattle.std.proofs.Common.{None, IsPermutation, IsTrue, IsFalse, sym, ap, ◌∙◌, arith, filter}
use Rattle.maildir_run.proofs.Common.{list_any, get, insert, remove, keys, retain_keys, same_map, contains_key-keys, any-filter_same, list_any-IsPermutation}
use Rattle.maildir_run.proofs.Common.{is_converter_name, Files, FileMap, is_name, Call, Listing, Writing, Placing, Removing, Move, Other, Again, all_bases}
use Rattle.maildir_run.proofs.Common.{Torn, after, effect, placed, torn, IsOwn, swept, added, Message, KeepsForeign, Do, quietly, AllDone, sweep_of}
use Rattle.maildir_name.specs.declared.target.Place.{Place}
use Rattle.maildir_name.specs.declared.target.Place.TheVariants.{New, Cur}
use Rattle.maildir_run.proofs.Names.Maps.{none_if_not_some, total, same, is_name-true, alike, get_under, get_inserted, get_removed, get-insert_same, put_away}

pub others_same : (s : Files) → KeepsForeign s s
others_same s = grind arith

pub foreign_then : (a b c : Files) → KeepsForeign a b → KeepsForeign b c → KeepsForeign a c
foreign_then a b c first then = grind (arith)

-- ---- a call that names converter's names alone
abbrev pub OfConverter : Call → Type 0
OfConverter (Listing sub) = Unit {0}
OfConverter (Writing name bytes) = IsTrue (is_converter_name name)
OfConverter (Placing name p target) = IsTrue (is_converter_name name) × IsTrue (is_converter_name target)
OfConverter (Removing name) = IsTrue (is_converter_name name)

insert_other : (m : FileMap) (q name bytes : List ℕ) → IsTrue (is_converter_name name) → IsFalse (is_converter_name q) → get (insert m name bytes) q ≡ get m q
insert_other m q name bytes ours off = grind (arith, get_inserted, alike is_converter_name q name)

remove_other : (m : FileMap) (q name : List ℕ) → IsTrue (is_converter_name name) → IsFalse (is_converter_name q) → get (remove m name) q ≡ get m q
remove_other m q name ours off = grind (arith, get_removed, alike is_converter_name q name)

wrote : (s : Files) (name bytes : List ℕ) → IsTrue (is_converter_name name) → KeepsForeign s (record s { tmp = insert s.tmp name bytes })
wrote s name bytes ours = grind (arith, insert_other)

placed_others : (s : Files) (name : List ℕ) (p : Place) (target : List ℕ) (o : Option (List ℕ))
    → IsTrue (is_converter_name name) → IsTrue (is_converter_name target) → KeepsForeign s (placed s name p target o)
placed_others s name p target None ours theirs = others_same s
placed_others s name New target (Some bytes) ours theirs = grind (arith, remove_other, insert_other)
placed_others s name Cur target (Some bytes) ours theirs = grind (arith, remove_other, insert_other)

pub effect_others : (call : Call) → OfConverter call → {s : Files} → KeepsForeign s (effect call s)
effect_others (Listing sub) h {s} = others_same s
effect_others (Writing name bytes) h {s} = wrote s name bytes h
effect_others (Placing name p target) h {s} = grind (arith, placed_others)
effect_others (Removing name) h {s} = grind (arith, remove_other)

torn_others : (call : Call) → OfConverter call → (bytes : List ℕ) {s : Files} → KeepsForeign s (torn call bytes s)
torn_others (Writing name _) h bytes {s} = wrote s name bytes h
torn_others other h bytes {s} = others_same s

pub own_others : (call : Call) → OfConverter call → (ms : List Move) {s : Files} → IsOwn ms → KeepsForeign s (after all_bases s call ms)
own_others call h [] {s} own = others_same s
own_others call h (Other action ∷ ms) own = absurd own
own_others call h (Again ∷ ms) {s} own =
    foreign_then s _ _ (effect_others call h) (own_others call h ms own)
own_others call h (Torn bytes ∷ ms) {s} own =
    foreign_then s _ _ (torn_others call h bytes) (own_others call h ms own)

-- ---- the sweep
-- these names are out of `tmp`, and nothing else has changed
all_removed : (names : List (List ℕ)) (old new : Files) → AllDone quietly (map (λ name. Do (Removing name)) names) old new
    → ((q : List ℕ) → get new.tmp q ≡ cond (list_any (is_name q) names) None (get old.tmp q)) × (new.new ≡ old.new) × (new.cur ≡ old.cur)
all_removed [] old new e = grind arith
all_removed (x ∷ names) old new (mid, one, more) =
    let r = all_removed names mid new more in
    grind (arith, get_removed)

pub swept_exact : {names : List (List ℕ)} (start : Files) {now : Files} → IsPermutation names (keys start.tmp)
    → AllDone quietly (sweep_of names) start now → now ≡ swept start
swept_exact {names} start {now} listed done =
    let r = all_removed (filter is_converter_name names) start now done in
    let tmp : now.tmp ≡ retain_keys start.tmp (λ name. not (is_converter_name name)) = same_map total same _ _ (λ q.
    r.0 q
    ∙ ap (λ t. cond t None (get start.tmp q))
    (any-filter_same (is_name q) is_converter_name (is_converter_name q) (λ k e. ap is_converter_name (sym (is_name-true q k e))) names)
    ∙ (let gone : list_any (is_name q) names ≡ false → get start.tmp q ≡ None = λ off.
    none_if_not_some (get start.tmp q) (contains_key-keys start.tmp q ∙ sym (list_any-IsPermutation (is_name q) names (keys start.tmp) listed) ∙ off) in
    grind (arith, get_under))) in
    grind arith

-- ---- a message
placed_exact : (old : Files) (b body : List ℕ) (p : Place) (name : List ℕ) → get old.tmp b ≡ None
    → placed (record old { tmp = insert old.tmp b body }) b p name (Some body) ≡ added old p name body
placed_exact old b body p name none = grind (arith, put_away)

pub delivers_exact : (old : Files) {mid new : Files} (b body : List ℕ) (p : Place) (name : List ℕ) → mid ≡ effect (Writing b body) old
    → new ≡ effect (Placing b p name) mid → get old.tmp b ≡ None → new ≡ added old p name body
delivers_exact old b body p name wrote put none = grind (arith, get-insert_same, placed_exact)

added_tmp : (s : Files) (p : Place) (name body : List ℕ) → (added s p name body).tmp ≡ s.tmp
added_tmp s p name body = grind arith

pub step_tmp : (t : Bool) (s : Files) (m : Message) → (cond t s (added s m.target.place m.target.name m.body)).tmp ≡ s.tmp
step_tmp t s m = grind (arith, added_tmp)

pub swept_free : (s : Files) (b : List ℕ) → IsTrue (is_converter_name b) → get (swept s).tmp b ≡ None
swept_free s b ours = grind (arith, get_under)
