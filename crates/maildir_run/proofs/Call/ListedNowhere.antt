-- A base that two listings do not show has no home.
use Rattle.std.proofs.Common.{◌≡◌, ℕ, true, false, List, [], ◌∷◌, Option, IsPermutation, IsTrue, IsFalse, refl, sym, ap, ◌∙◌, inl, inr, arith}
use Rattle.maildir_run.proofs.Common.{list_any, remove, keys, contains_key-keys, get-remove, or_parts, cases_Bool, list_any-IsPermutation, Sub}
use Rattle.maildir_run.proofs.Common.{New, Cur, is_name, FileMap, Files, has_base, held_under, homes, Action, Spared, is_spared}
use Rattle.maildir_run.proofs.Common.{to_cur, reflag, acted, all_acted, Listing, Move, Again, moved, after, Lists}
use Rattle.maildir_run.proofs.Names.Maps.{none_if_not_some, total, is_name-true}
use Rattle.maildir_run.proofs.Call.Homes.{held-outsiders_of}
use Rattle.maildir_run.proofs.Call.Moves.{after_kept, after-append, homes_none, none_held, held_none}

-- ---- what a listing shows
none_alike : (b q : List ℕ) → has_base b q ≡ true → (names : List (List ℕ)) → list_any (has_base b) names ≡ false → list_any (is_name q) names ≡ false
none_alike b q on [] off = refl
none_alike b q on (x ∷ names) off =
    let parts = or_parts (has_base b x) (list_any (has_base b) names) off in
    elim (cases_Bool (is_name q x)) [
      | inl e ↦ let on_too : has_base b q ≡ has_base b x = ap (has_base b) (is_name-true q x e) in let off_here = parts.0 in cc
      | inr e ↦ rw e (none_alike b q on names parts.1)
    ]

pub unlisted : (b : List ℕ) (m : FileMap) {names : List (List ℕ)} → IsPermutation names (keys m) → IsFalse (list_any (has_base b) names) → held_under b m ≡ []
unlisted b m {names} listed off =
    held_none b m (λ q on. none_if_not_some _
    (contains_key-keys m q ∙ none_alike b q on (keys m) (sym (list_any-IsPermutation (has_base b) names (keys m) listed) ∙ off)))

-- ---- nobody brings a file of this base into `new`
none_removed : (b : List ℕ) (m : FileMap) (name : List ℕ) → held_under b m ≡ [] → held_under b (remove m name) ≡ []
none_removed b m name e = grind (arith, held_none, get-remove, total, none_held)

module _ (b : List ℕ) (s : Files) (name target : List ℕ) where
  to_cur_new : (o : Option (List ℕ)) → held_under b s.new ≡ [] → held_under b (to_cur s name target o).new ≡ []
  to_cur_new o e = grind (arith, none_removed)

  reflag_new : (o : Option (List ℕ)) → held_under b s.new ≡ [] → held_under b (reflag s name target o).new ≡ []
  reflag_new o e = grind arith

module _ (spared : Spared) (b : List ℕ) (named : IsTrue (is_spared spared b)) where
  pub acted_new : (action : Action) (s : Files) → held_under b s.new ≡ [] → held_under b (acted spared action s).new ≡ []
  acted_new action s e = grind (arith, to_cur_new, reflag_new, held-outsiders_of)

  pub moved_new : (sub : Sub) (m : Move) (s : Files) → held_under b s.new ≡ [] → held_under b (moved spared (Listing sub) m s).new ≡ []
  moved_new sub m s e = grind (arith, acted_new)

  listing_new : (sub : Sub) (ms : List Move) (s : Files) → held_under b s.new ≡ [] → held_under b (after spared s (Listing sub) ms).new ≡ []
  listing_new sub [] s e = e
  listing_new sub (m ∷ ms) s e = listing_new sub ms (moved spared (Listing sub) m s) (moved_new sub m s e)

  pub all_acted_new : (actions : List Action) (s : Files) → held_under b s.new ≡ [] → held_under b (all_acted spared actions s).new ≡ []
  all_acted_new [] s e = e
  all_acted_new (action ∷ actions) s e = all_acted_new actions (acted spared action s) (acted_new action s e)

  -- after a listing of `new` that does not show it, `new` has no file of the base
  pub listed_new : (old : Files) (names : List (List ℕ)) (new : Files) → Lists spared New old names new
      → IsFalse (list_any (has_base b) names) → held_under b new.new ≡ []
  listed_new old names new listed off =
      let mid = after spared old (Listing New) listed.before in
      rw (listed.left ∙ after-append spared old (Listing New) listed.before (Again ∷ listed.rest))
      (listing_new New listed.rest mid (unlisted b mid.new listed.names_are off))

  -- and after a later listing of `cur` that does not show it either, it has no home
  pub listed_cur : (old : Files) (names : List (List ℕ)) (new : Files) → held_under b old.new ≡ []
      → Lists spared Cur old names new → IsFalse (list_any (has_base b) names) → homes new b ≡ []
  listed_cur old names new e listed off =
      let mid = after spared old (Listing Cur) listed.before in
      let none : homes mid b ≡ [] = rw (listing_new Cur listed.before old e, unlisted b mid.cur listed.names_are off) refl in
      rw (listed.left ∙ after-append spared old (Listing Cur) listed.before (Again ∷ listed.rest))
      (homes_none b mid (after spared mid (Listing Cur) listed.rest) (after_kept spared b named (Listing Cur) tt listed.rest mid) none)

  pub listed_twice : (s : Files) (t u v : Files) (in_new in_cur : List (List ℕ)) (actions : List Action) → Lists spared New s in_new t
      → u ≡ all_acted spared actions t → Lists spared Cur u in_cur v → IsFalse (list_any (has_base b) in_new) → IsFalse (list_any (has_base b) in_cur)
      → homes v b ≡ []
  listed_twice s t u v in_new in_cur actions first between second off_new off_cur =
      listed_cur u in_cur v
      (rw between (all_acted_new actions t (listed_new s in_new t first off_new)))
      second off_cur
