-- What a power cut leaves of the files of one base, from one move to the next.
use Rattle.std.proofs.Common.{◌≡◌, ℕ, true, false, cond, zero, suc, List, [], ◌∷◌, ◌++◌, ◌⊎◌, Option, Some, None, get_or, IsPermutation, IsTrue, refl, sym}
use Rattle.std.proofs.Common.{ap, subst, ◌∙◌, inl, inr, arith, Contains, rules}
use Rattle.maildir_disk.proofs.Common.{get, insert, remove, get-insert, get-remove, same_map, cases_Bool, and_parts, Contains-push, Contains-append_left}
use Rattle.maildir_disk.proofs.Common.{Contains-append_right, Contains-append_cases, Place, FileMap, Files, is_name}
use Rattle.maildir_disk.proofs.Common.{has_base, held_under, homes, Action, ToCur, Reflag, DropTmp, Outside, may_take, Call, Writing, Placing, Move}
use Rattle.maildir_disk.proofs.Common.{Other, Again, Torn, placed, moved, PlacesElsewhere, StaysOrGoes, Leaves, IsFoundWhole, Came, Doubled, linked, doubled}
use Rattle.maildir_disk.proofs.Common.{left_after, Message, AreNamed, total, same, is_name-true, get-insert_same, absent, acted_kept, equally}
use Rattle.maildir_disk.proofs.Common.{held-insert_other, held-insert_new, held-remove_old, after_kept, after_tmp, HasBody, IsIntact, LeftByOthers}
use Rattle.maildir_disk.proofs.Common.{AreIntact, Follows, Survive, Spared, is_spared, is_spared_name, AllSpared, spared_named}
use Rattle.std.proofs.lemmas.List.Sorted.{IsPermutation-sym, Contains-permutation}
use Rattle.maildir_name.specs.declared.target.Place.TheVariants.{New, Cur}
use Rattle.maildir_disk.proofs.Calls.Pieces.{again}
use Rattle.maildir_run.specs.Cuts as cuts
use Rattle.maildir_disk.proofs.Left.Lefts.{others_leave}
use Rattle.std.proofs.Common.{◌≤◌, length}
use Rattle.maildir_disk.proofs.Common.{Listing, Tmp, length_permutation}
use Rattle.maildir_run.proofs.Tasks.Firsts.{elsewhere_once}

-- ---- one more element
pub none_in : {X : Type 0} {y : X} → Contains [] y → ⊥
none_in (k, below, at) = omega (arith, below)

pub first_in : {X : Type 0} {x : X} (xs : List X) → Contains (x ∷ xs) x
first_in {x} xs = Contains-append_left (x ∷ []) xs x (Contains-push [] x)

pub first_or : {X : Type 0} {x : X} (xs : List X) {y : X} → Contains (x ∷ xs) y → (y ≡ x) ⊎ Contains xs y
first_or xs (zero, below, at) = inl (sym at)
first_or xs (suc k, below, at) = inr (k, omega (arith, below), at)

-- ---- one folder, with a new file under a name of the base
remove_inserted : (m : FileMap) (k v : List ℕ) → remove (insert m k v) k ≡ remove m k
remove_inserted m k v =
    same_map total same _ _ (λ q.
    get-remove total (insert m k v) k q
    ∙ ap (cond (is_name q k) None) (get-insert total m k v q)
    ∙ again (is_name q k) None (Some v) (get m q)
    ∙ sym (get-remove total m k q))

module _ (b : List ℕ) (m : FileMap) (k v : List ℕ) (on : has_base b k ≡ true) where
  replaced : IsPermutation (v ∷ held_under b (remove m k)) (held_under b (insert m k v))
  replaced = grind (arith, remove_inserted m k v, held-remove_old b (insert m k v) k v on (get-insert_same m k v))

  inserted_in : Contains (held_under b (insert m k v)) v
  inserted_in = Contains-permutation _ _ v replaced (first_in _)

  held_in : get m k ≡ Some v → Contains (held_under b m) v
  held_in has = Contains-permutation _ _ v (held-remove_old b m k v on has) (first_in _)

  still_in : get m k ≡ None → {y : List ℕ} → Contains (held_under b m) y → Contains (held_under b (insert m k v)) y
  still_in free {y} h = Contains-permutation _ _ y (held-insert_new b m k v on free) (Contains-append_right (v ∷ []) _ y h)

  inserted_or : (y : List ℕ) → Contains (held_under b (insert m k v)) y → (y ≡ v) ⊎ Contains (held_under b m) y
  inserted_or y h =
      elim (get m k) as (λ o. get m k ≡ o → (y ≡ v) ⊎ Contains (held_under b m) y) [
        | None ↦ λ free. first_or _ (Contains-permutation _ _ y (IsPermutation-sym _ _ (held-insert_new b m k v on free)) h)
        | Some old ↦ λ has.
            elim (first_or _ (Contains-permutation _ _ y (IsPermutation-sym _ _ replaced) h)) [
              | inl is ↦ inl is
              | inr other ↦ inr (Contains-permutation _ _ y (held-remove_old b m k old on has) (Contains-append_right (old ∷ []) _ y other))
            ]
      ] refl

-- ---- lists that gain one element
-- each element was one before, or is this one; and this one stays
pub record Steady (x : List ℕ) (old new : List (List ℕ)) : Type 0 where
  pub within : (y : List ℕ) → Contains new y → (y ≡ x) ⊎ Contains old y
  pub still : Contains old x → Contains new x

steady_left : {x : List ℕ} {old new : List (List ℕ)} (more : List (List ℕ)) → Steady x old new → Steady x (old ++ more) (new ++ more)
steady_left {x} {old} {new} more steady = record {
  within = λ y h. elim (Contains-append_cases new more y h) [
    | inr there ↦ inr (Contains-append_right old more y there)
    | inl there ↦ elim (steady.within y there) [ inl is ↦ inl is | inr before ↦ inr (Contains-append_left old more y before) ]
  ];
  still = λ h.
      elim (Contains-append_cases old more x
      h) [ inl there ↦ Contains-append_left new more x (steady.still there) | inr there ↦ Contains-append_right new more x there ];
}

steady_right : {x : List ℕ} {old new : List (List ℕ)} (first : List (List ℕ)) → Steady x old new → Steady x (first ++ old) (first ++ new)
steady_right {x} {old} {new} first steady = record {
  within = λ y h. elim (Contains-append_cases first new y h) [
    | inl there ↦ inr (Contains-append_left first old y there)
    | inr there ↦ elim (steady.within y there) [ inl is ↦ inl is | inr before ↦ inr (Contains-append_right first old y before) ]
  ];
  still = λ h.
      elim (Contains-append_cases first old x
      h) [ inl there ↦ Contains-append_left first new x there | inr there ↦ Contains-append_right first new x (steady.still there) ];
}

-- ---- the homes of a base, and some bytes
abbrev pub SteadyAt : (b x : List ℕ) (old new : Files) → Type 0
SteadyAt b x old new = Steady x (homes old b) (homes new b)

-- a file that was written survives whole as long as no call writes it again
whole_on : (spared : Spared) (name : List ℕ) {x : List ℕ} (s t : Files) → StaysOrGoes name s t → IsFoundWhole spared (Writing name x) s
    → IsFoundWhole spared (Writing name x) t
whole_on spared name s t (inl stays) whole = grind arith
whole_on spared name s t (inr gone) whole = grind arith

linked_tmp : (s : Files) (name target : List ℕ) (o : Option (List ℕ)) → (linked s name target o).tmp ≡ s.tmp
linked_tmp s name target None = refl
linked_tmp s name target (Some bytes) = grind arith

doubled_tmp : (action : Action) (s : Files) → (doubled action s).tmp ≡ s.tmp
doubled_tmp (ToCur name target) s = grind (arith, linked_tmp)
doubled_tmp (Reflag name target) s = grind (arith, linked_tmp)
doubled_tmp (DropTmp name) s = refl
doubled_tmp (Outside files) s = refl

module _ (b x : List ℕ) where
  pub steady_same : (s : Files) → SteadyAt b x s s
  steady_same s = grind arith

  pub steady_then : (r s t : Files) → SteadyAt b x r s → SteadyAt b x s t → SteadyAt b x r t
  steady_then r s t first then = record {
    within = λ y h. elim (then.within y h) [ inl is ↦ inl is | inr there ↦ first.within y there ];
    still = λ h. then.still (first.still h);
  }

  pub steady_kept : (s t : Files) → IsPermutation (homes s b) (homes t b) → SteadyAt b x s t
  steady_kept s t kept = record {
    within = λ y h. inr (Contains-permutation _ _ y (IsPermutation-sym _ _ kept) h);
    still = Contains-permutation _ _ x kept;
  }

  -- a file of the base under one more name of that base
  linked_in : (s : Files) (target : List ℕ) {bytes : List ℕ} → has_base b target ≡ true → get s.cur target ≡ None
      → Contains (homes s b) bytes → SteadyAt b x s (record s { cur = insert s.cur target bytes })
  linked_in s target {bytes} on free has = record {
    within = λ y h. inr (elim (Contains-append_cases (held_under b s.new) _ y h) [
      | inl there ↦ Contains-append_left _ _ y there
      | inr there ↦ elim (inserted_or b s.cur target bytes on y there) [
        | inl is ↦ subst (Contains (homes s b)) (sym is) has
        | inr before ↦ Contains-append_right _ _ y before
      ]
    ]);
    still = λ h. elim (Contains-append_cases (held_under b s.new) _ x h) [
      | inl there ↦ Contains-append_left _ _ x there
      | inr there ↦ Contains-append_right _ _ x (still_in b s.cur target bytes on free there)
    ];
  }

  linked_steady : (s : Files) (name target : List ℕ) (o : Option (List ℕ))
      → ((bytes : List ℕ) → has_base b name ≡ true → o ≡ Some bytes → Contains (homes s b) bytes) → SteadyAt b x s (linked s name target o)
  linked_steady s name target None has = steady_same s
  linked_steady s name target (Some bytes) has =
      elim (may_take s.cur name target) as (λ t. may_take s.cur name target ≡ t → SteadyAt b x s (cond t (record s { cur = insert s.cur target bytes }) s)) [
        | false ↦ λ may. steady_same s
        | true ↦ λ may.
            let parts = and_parts _ _ may in
            let alike : has_base b target ≡ has_base b name = ap (is_name b) (sym (is_name-true _ _ parts.1)) in
            elim (cases_Bool (has_base b name)) [
              | inl on ↦ linked_in s target (alike ∙ on) (absent _ parts.0) (has bytes on refl)
              | inr off ↦ let t : Files =
                  record s { cur = insert s.cur target bytes } in
                  steady_kept s t (equally b s t (rw (held-insert_other b s.cur target bytes (alike ∙ off)) refl))
            ]
      ] refl

  doubled_steady : (action : Action) (s : Files) → SteadyAt b x s (doubled action s)
  doubled_steady (ToCur name target) s = search (rules, linked_steady, Contains-append_left, held_in)
  doubled_steady (Reflag name target) s = search (rules, linked_steady, Contains-append_right, held_in)
  doubled_steady (DropTmp name) s = steady_same s
  doubled_steady (Outside files) s = steady_same s

  -- a file with these bytes under a name of the base, which may have been taken
  inserted_steady : (m : FileMap) (target : List ℕ) → has_base b target ≡ true → Steady x (held_under b m) (held_under b (insert m target x))
  inserted_steady m target on = search (rules, inserted_or, inserted_in)

  placed_steady : (s : Files) (name : List ℕ) (p : Place) (target : List ℕ) (o : Option (List ℕ))
      → has_base b target ≡ true → ((held : List ℕ) → o ≡ Some held → held ≡ x) → SteadyAt b x s (placed s name p target o)
  placed_steady s name p target None on whole = steady_same s
  placed_steady s name New target (Some held) on whole = grind (arith, steady_left (held_under b s.cur) (inserted_steady s.new target on))
  placed_steady s name Cur target (Some held) on whole = grind (arith, steady_right (held_under b s.new) (inserted_steady s.cur target on))

  module _ (spared : Spared) (named : IsTrue (is_spared spared b)) where
    -- a call that places nothing at the base
    left_elsewhere : (call : Call) → PlacesElsewhere b call → (kept : List (cuts.CutMove Move)) (s : Files)
        → SteadyAt b x s (left_after (moved spared call) s kept)
    left_elsewhere call off [] s = steady_same s
    left_elsewhere call off (Came move ∷ kept) s =
        steady_then s (moved spared call move s) (left_after (moved spared call) s (Came move ∷ kept))
        (steady_kept s (moved spared call move s) (after_kept spared b named call off (move ∷ []) s)) (left_elsewhere call off kept (moved spared call move s))
    left_elsewhere call off (Doubled action ∷ kept) s =
        steady_then s (doubled action s) (left_after (moved spared call) s (Doubled action ∷ kept)) (doubled_steady action s)
        (left_elsewhere call off kept (doubled action s))

    pub leaves_elsewhere : {call : Call} → PlacesElsewhere b call → {s t : Files} → Leaves spared call s t → SteadyAt b x s t
    leaves_elsewhere {call} off {s} leaves = subst (SteadyAt b x s) (sym leaves.are) (left_elsewhere call off leaves.kept s)

    -- a call that places a file of `tmp` at the base, which was written with these bytes
    module _ (name : List ℕ) (p : Place) (target : List ℕ) (ours : IsTrue (is_spared_name spared name)) (on : has_base b target ≡ true) where
      placing_moved : (move : Move) (s : Files) → IsFoundWhole spared (Writing name x) s → SteadyAt b x s (moved spared (Placing name p target) move s)
      placing_moved (Other action) s whole = grind (arith, steady_kept, acted_kept)
      placing_moved Again s whole = grind (arith, placed_steady)
      placing_moved (Torn bytes) s whole = steady_same s

      left_placing : (kept : List (cuts.CutMove Move)) (s : Files) → IsFoundWhole spared (Writing name x) s
          → SteadyAt b x s (left_after (moved spared (Placing name p target)) s kept)
      left_placing [] s whole = steady_same s
      left_placing (Came move ∷ kept) s whole =
          let t = moved spared (Placing name p target) move s in
          steady_then s t (left_after (moved spared (Placing name p target)) s (Came move ∷ kept)) (placing_moved move s whole)
          (left_placing kept t (whole_on spared name s t (after_tmp spared name ours (Placing name p target) tt (move ∷ []) s) whole))
      left_placing (Doubled action ∷ kept) s whole =
          let t = doubled action s in
          steady_then s t (left_after (moved spared (Placing name p target)) s (Doubled action ∷ kept)) (doubled_steady action s)
          (left_placing kept t (whole_on spared name s t (inl (ap (λ m. get m name) (doubled_tmp action s))) whole))

      pub leaves_placing : {s t : Files} → IsFoundWhole spared (Writing name x) s → Leaves spared (Placing name p target) s t → SteadyAt b x s t
      leaves_placing {s} whole leaves = subst (SteadyAt b x s) (sym leaves.are) (left_placing leaves.kept s whole)

-- ---- a message with this base
-- what a power cut leaves of it stays, holds its body and comes once
pub record HoldsAt (spared : Spared) (m : Message) (s t : Files) : Type 0 where
  pub steady : SteadyAt m.target.base m.body s t
  pub once : IsTrue spared.whole → length (homes s m.target.base) ≤ 1 → length (homes t m.target.base) ≤ 1

pub still : {spared : Spared} {m : Message} {s t : Files} → HoldsAt spared m s t → HasBody s m → HasBody t m
still holds = holds.steady.still

pub holds_kept : {spared : Spared} (m : Message) (s t : Files) → IsPermutation (homes s m.target.base) (homes t m.target.base) → HoldsAt spared m s t
holds_kept m s t kept = record {
  steady = steady_kept m.target.base m.body s t kept;
  once = λ whole few. let e = length_permutation _ _ kept in omega (arith, e, few);
}

pub intact_on : {spared : Spared} (m : Message) (s t : Files) → HoldsAt spared m s t → IsIntact spared s m → IsIntact spared t m
intact_on m s t holds intact = record {
  holds = λ bytes h. elim (holds.steady.within bytes h) [ inl is ↦ is | inr there ↦ intact.holds bytes there ];
  once = λ whole. holds.once whole (intact.once whole);
}

pub missing_intact : {spared : Spared} (m : Message) (s : Files) → homes s m.target.base ≡ [] → IsIntact spared s m
missing_intact m s none = record {
  holds = λ bytes has. absurd (none_in (subst (λ xs. Contains xs bytes) none has));
  once = λ whole. let e = ap length none in omega (arith, e);
}

pub others_hold : {spared : Spared} (m : Message) → IsTrue (is_spared spared m.target.base) → {s t : Files} → LeftByOthers spared s t
    → HoldsAt spared m s t
others_hold {spared} m named {s} {t} leaves = record {
  steady = leaves_elsewhere m.target.base m.body spared named {call = Listing Tmp} tt (others_leave leaves);
  once = λ whole. elsewhere_once spared m.target.base named whole (Listing Tmp) tt s t (others_leave leaves);
}

-- ---- several messages
abbrev pub AllHold : Spared → List Message → Files → Files → Type 0
AllHold spared ms s t = AllSpared spared (λ m. HoldsAt spared m s t) ms

pub all_intact : (spared : Spared) (ms : List Message) (s t : Files) → AllHold spared ms s t
    → AllSpared spared (IsIntact spared s) ms → AllSpared spared (IsIntact spared t) ms
all_intact spared ms s t hold intact k d below sp = intact_on (get_or ms k d) s t (hold k d below sp) (intact k d below sp)

pub all_bodies : (spared : Spared) (ms : List Message) (s t : Files) → AllHold spared ms s t
    → AllSpared spared (HasBody s) ms → AllSpared spared (HasBody t) ms
all_bodies spared ms s t hold bodies k d below sp = (hold k d below sp).steady.still (bodies k d below sp)

pub all_beside : {spared : Spared} (ms : List Message) {s t : Files} → AreNamed ms → LeftByOthers spared s t → AllHold spared ms s t
all_beside {spared} ms named leaves k d below sp = others_hold (get_or ms k d) (spared_named spared _ sp (named k d below)) leaves

-- a step after which the messages hold, over all that a power cut may leave
module _ (spared : Spared) (ms : List Message) {of : Files → Files → Type 0} {before now : Files → Type 0}
    (hold : (s t : Files) → of s t → AllHold spared ms s t)
    (follows : Follows of before now) where
  pub left_intact : AreIntact spared ms before → AreIntact spared ms now
  left_intact intact left may = let was = follows left may in all_intact spared ms was.0 left (hold was.0 left was.2) (intact was.0 was.1)

  pub left_bodies : Survive spared ms before → Survive spared ms now
  left_bodies survive left may = let was = follows left may in all_bodies spared ms was.0 left (hold was.0 left was.2) (survive was.0 was.1)
