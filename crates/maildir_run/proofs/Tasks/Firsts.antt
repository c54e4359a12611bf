-- What a run places is the first file of its base in what a power cut leaves.
use Rattle.std.proofs.Common.{◌≡◌, ℕ, Bool, true, false, cond, List, [], ◌∷◌, ◌++◌, ◌⊎◌, Option, Some, None, All, IsTrue, IsFalse, refl}
use Rattle.std.proofs.Common.{sym, ap, subst, ◌∙◌, ◌≤◌, map, filter, get_or, inl, inr, arith, length, suc}
use Rattle.maildir_run.proofs.Common.{get, insert}
use Rattle.maildir_run.proofs.Common.{and_parts, or_parts, cases_Bool, false≢true, All-head, All-tail, base, RunFault, Call, Listing, Writing}
use Rattle.maildir_run.proofs.Common.{Placing, Removing, Sub, Cur, PlacesElsewhere, Move, moved, Came, Leaves, left_after, linked, Files, Action}
use Rattle.maildir_run.proofs.Common.{ToCur, Reflag, DropTmp, Outside, has_base, held_under, homes, is_name, may_take, Spared, is_spared}
use Rattle.maildir_run.proofs.Common.{is_spared_name, IsSpared, Message, AreDistinct}
use Rattle.maildir_run.proofs.Common.{IsTarget, Task, Ask, Do, call_of, leaving, AllDone, Stopped, DoneUntil, Listings, listing_tasks, is_listed}
use Rattle.maildir_run.proofs.Common.{sweep_of, delivery_of, delivery_if, deliveries_of}
use Rattle.maildir_run.specs.Cuts.{CutMove, Doubled, FindsNone, doubled}
use Rattle.maildir_name.specs.declared.target.Place.{Place}
use Rattle.maildir_run.specs.Tasks.{LeavesDone, LeavesRefused}
use Rattle.maildir_run.proofs.Common.{planned_tasks, is_converter_name, length_permutation}
use Rattle.maildir_run.proofs.Tasks.PlanLemmas.{planned_are}
use Rattle.maildir_run.proofs.Call.Cuts.{whole_moves}
use Rattle.maildir_run.specs.Private.Tasks.{jointly, lasting}
use Rattle.maildir_run.proofs.Names.Maps.{is_name-true, is_name-refl}
use Rattle.maildir_run.proofs.Call.Homes.{held-insert_other, KeepsHomesOf, spared_named}
use Rattle.maildir_run.proofs.Call.Moves.{after_kept, both_none, homes_none, none_held, placing, Stage}
use Rattle.maildir_run.proofs.Call.ListedNowhere.{listed_new, moved_new}
use Rattle.maildir_run.proofs.Run.Conversions.{run_tasks}
use Rattle.maildir_run.proofs.Tasks.TaskEffects.{EachTask, each_of_both, PlacesNone, across, all_parts, stopped_parts, sweep_places_none}
use Rattle.maildir_run.proofs.Tasks.Tasks.{done_then, leaving_stops, stopped_before}

some_not_none : {bytes : List ℕ} → Some bytes ≡ None → ⊥
some_not_none e = cc

-- ---- a base that has no file
linked_new : (s : Files) (name target : List ℕ) (o : Option (List ℕ)) → (linked s name target o).new ≡ s.new
linked_new s name target None = refl
linked_new s name target (Some bytes) = grind arith

doubled_new : (action : Action) (s : Files) → (doubled action s).new ≡ s.new
doubled_new (ToCur name target) s = linked_new s name target (get s.new name)
doubled_new (Reflag name target) s = linked_new s name target (get s.cur name)
doubled_new (DropTmp name) s = refl
doubled_new (Outside files) s = refl

-- ---- a message is placed under the base under which it was written
abbrev pub PlacesOwn : Task → Type 0
PlacesOwn (Do (Placing name place target)) = base name ≡ base target
PlacesOwn other = Unit {0}

removes_own : (names : List (List ℕ)) → EachTask PlacesOwn (map (λ name. Do (Removing name)) names)
removes_own [] = tt
removes_own (name ∷ names) = (tt, removes_own names)

delivery_own : (shown : Bool) (m : Message) → IsTarget m.target → EachTask PlacesOwn (cond shown [] (delivery_of m.target m.body))
delivery_own true m is = tt
delivery_own false m is = (tt, (sym (is_name-true _ _ is.whole) ∙ is_name-true _ _ is.under, tt))

deliveries_own : (is_there : List ℕ → Bool) (ms : List Message) → All (λ m. IsTarget m.target) ms → EachTask PlacesOwn (deliveries_of is_there ms)
deliveries_own is_there [] are = tt
deliveries_own is_there (m ∷ ms) are =
    each_of_both PlacesOwn (delivery_if is_there m) (deliveries_of is_there ms)
    (delivery_own (is_there m.target.base) m (All-head (λ (n : Message). IsTarget n.target) m ms are))
    (deliveries_own is_there ms (All-tail (λ (n : Message). IsTarget n.target) m ms are))

run_own : (names : Listings) (ms : List Message) → All (λ m. IsTarget m.target) ms → EachTask PlacesOwn (run_tasks names ms)
run_own names ms are =
    let sweep = sweep_of names.tmp in
    let deliveries = deliveries_of (is_listed names.new names.cur) ms in (
      tt,
      (tt, (tt, each_of_both PlacesOwn sweep deliveries (removes_own (filter is_converter_name names.tmp)) (deliveries_own _ ms are))),
    )

module _ (spared : Spared) (b : List ℕ) (named : IsTrue (is_spared spared b)) where
  linked_none : (s : Files) (name target : List ℕ) (o : Option (List ℕ)) → (has_base b name ≡ true → o ≡ None) → homes s b ≡ []
      → homes (linked s name target o) b ≡ []
  linked_none s name target None off e = e
  linked_none s name target (Some bytes) off e =
      elim (may_take s.cur name target) as (λ t. may_take s.cur name target ≡ t → homes (cond t (record s { cur = insert s.cur target bytes }) s) b ≡ []) [
        | false ↦ λ may. e
        | true ↦ λ may.
            let parts = and_parts _ _ may in
            let alike : has_base b target ≡ has_base b name = ap (is_name b) (sym (is_name-true _ _ parts.1)) in
            elim (cases_Bool (has_base b name)) [
              | inl on ↦ absurd (some_not_none (off on))
              | inr out ↦ rw (held-insert_other b s.cur target bytes (alike ∙ out)) e
            ]
      ] refl

  doubled_none : (action : Action) (s : Files) → homes s b ≡ [] → homes (doubled action s) b ≡ []
  doubled_none (ToCur name target) s e = linked_none s name target (get s.new name) (λ on. none_held b s.new (both_none _ _ e).0 name on) e
  doubled_none (Reflag name target) s e = linked_none s name target (get s.cur name) (λ on. none_held b s.cur (both_none _ _ e).1 name on) e
  doubled_none (DropTmp name) s e = e
  doubled_none (Outside files) s e = e

  left_none : (call : Call) → PlacesElsewhere b call → (kept : List (CutMove Move)) (s : Files) → homes s b ≡ []
      → homes (left_after (moved spared call) s kept) b ≡ []
  left_none call off [] s e = e
  left_none call off (Came move ∷ kept) s e =
      left_none call off kept (moved spared call move s) (homes_none b s (moved spared call move s) (after_kept spared b named call off (move ∷ []) s) e)
  left_none call off (Doubled action ∷ kept) s e = left_none call off kept (doubled action s) (doubled_none action s e)

  -- a call that places nothing under it
  pub leaves_none_of : (call : Call) → PlacesElsewhere b call → (s t : Files) → Leaves spared call s t → homes s b ≡ [] → homes t b ≡ []
  leaves_none_of call off s t leaves e = subst (λ x. homes x b ≡ []) (sym leaves.are) (left_none call off leaves.kept s e)

  left_none_new : (sub : Sub) (kept : List (CutMove Move)) (s : Files) → held_under b s.new ≡ []
      → held_under b (left_after (moved spared (Listing sub)) s kept).new ≡ []
  left_none_new sub [] s e = e
  left_none_new sub (Came move ∷ kept) s e = left_none_new sub kept (moved spared (Listing sub) move s) (moved_new spared b named sub move s e)
  left_none_new sub (Doubled action ∷ kept) s e =
      left_none_new sub kept (doubled action s) (subst (λ m. held_under b m ≡ []) (sym (doubled_new action s)) e)

  -- a listing
  pub leaves_none_new : (sub : Sub) (s t : Files) → Leaves spared (Listing sub) s t → held_under b s.new ≡ [] → held_under b t.new ≡ []
  leaves_none_new sub s t leaves e = subst (λ x. held_under b x.new ≡ []) (sym leaves.are) (left_none_new sub leaves.kept s e)

  one_none : (task : Task) → PlacesNone task → (s t : Files) → LeavesDone spared task s t ⊎ Leaves spared (call_of task) s t
      → homes s b ≡ [] → homes t b ≡ []
  one_none task off s t (inl done) e = leaves_none_of (call_of task) (off b) s t done.0 e
  one_none task off s t (inr refused) e = leaves_none_of (call_of task) (off b) s t refused e

  -- tasks that place nothing
  tasks_none : (fault : Option RunFault) (tasks : List Task) → EachTask PlacesNone tasks → (s t : Files) → DoneUntil (lasting spared) tasks s fault t
      → homes s b ≡ [] → homes t b ≡ []
  tasks_none =
      across (lasting spared) (λ s t. homes s b ≡ [] → homes t b ≡ []) (λ s e. e) (λ s t u first then e. then (first e)) PlacesNone one_none

  -- ---- where each rename is kept or lost as one change, there is at most one file
  abbrev pub IsOnce : Files → Files → Type 0
  IsOnce s t = length (homes s b) ≤ 1 → length (homes t b) ≤ 1

  kept_once : (s t : Files) → KeepsHomesOf b s t → IsOnce s t
  kept_once s t kept few = let e = length_permutation _ _ kept in omega (arith, e, few)

  -- a call that places nothing under it
  pub elsewhere_once : IsTrue spared.whole → (call : Call) → PlacesElsewhere b call → (s t : Files) → Leaves spared call s t → IsOnce s t
  elsewhere_once whole call off s t leaves =
      let moves = whole_moves whole leaves in
      kept_once s t (subst (λ x. KeepsHomesOf b s x) (sym moves.left) (after_kept spared b named call off moves.moves s))

  stage_once : (name : List ℕ) {had : Option (List ℕ)} (s : Files) → Stage b name had s → length (homes s b) ≤ 1
  stage_once name s (inl waits) = let none = ap length waits.homes_are in omega (arith, none)
  stage_once name s (inr arrived) = let one = ap length arrived.homes_are in omega (arith, one)

  placing_once : IsTrue spared.whole → (name : List ℕ) (place : Place) (target : List ℕ) (s t : Files) → has_base b target ≡ true
      → IsTrue (is_spared_name spared name) → homes s b ≡ [] → Leaves spared (Placing name place target) s t → IsOnce s t
  placing_once whole name place target s t on ours none leaves few =
      let moves = whole_moves whole leaves in
      stage_once name t (subst (Stage b name (get s.tmp name)) (sym moves.left) (placing spared b name place target named ours on moves.moves s none))

  finds_once : IsTrue spared.whole → (task : Task) → PlacesOwn task → (s t : Files) → Leaves spared (call_of task) s t → FindsNone spared (call_of task) s
      → IsOnce s t
  finds_once whole (Ask sub names) own s t leaves finds = elsewhere_once whole (Listing sub) tt s t leaves
  finds_once whole (Do (Listing sub)) own s t leaves finds = elsewhere_once whole (Listing sub) tt s t leaves
  finds_once whole (Do (Writing name bytes)) own s t leaves finds = elsewhere_once whole (Writing name bytes) tt s t leaves
  finds_once whole (Do (Removing name)) own s t leaves finds = elsewhere_once whole (Removing name) tt s t leaves
  finds_once whole (Do (Placing name place target)) own s t leaves finds =
      elim (cases_Bool (has_base b target)) [
        | inr off ↦ elsewhere_once whole (Placing name place target) off s t leaves
        | inl on ↦
            let same : b ≡ base target = is_name-true _ _ on in
            let ours : IsTrue (is_spared_name spared target) = subst (λ x. IsTrue (is_spared spared x)) same named in
            placing_once whole name place target s t on (subst (λ x. IsTrue (is_spared spared x)) (sym own) ours)
            (subst (λ x. homes s x ≡ []) (sym same) (finds ours)) leaves
      ]

  one_once : IsTrue spared.whole → (task : Task) → PlacesOwn task → (s t : Files)
      → (LeavesDone spared task s t × FindsNone spared (call_of task) s) ⊎ LeavesRefused spared task s t → IsOnce s t
  one_once whole task own s t (inl done) = finds_once whole task own s t done.0.0 done.1
  one_once whole task own s t (inr (inl same)) = λ few. subst (λ (x : Files). length (homes x b) ≤ 1) (sym same) few
  one_once whole task own s t (inr (inr refused)) = finds_once whole task own s t refused.0 refused.1

  tasks_once : IsTrue spared.whole → (fault : Option RunFault) (tasks : List Task) → EachTask PlacesOwn tasks → (s t : Files)
      → DoneUntil (leaving spared) tasks s fault t → IsOnce s t
  tasks_once whole = across (leaving spared) IsOnce (λ s few. few) (λ s t u first then few. then (first few)) PlacesOwn (one_once whole)

  pub planned_once : IsTrue spared.whole → (names : Listings) (ms : List Message) → All (λ m. IsTarget m.target) ms → (fault : Option RunFault) (s t : Files)
      → DoneUntil (leaving spared) (planned_tasks names ms) s fault t → IsOnce s t
  planned_once whole names ms are fault s t h =
      tasks_once whole fault (run_tasks names ms) (run_own names ms are) s t
      (subst (λ tasks. DoneUntil (leaving spared) tasks s fault t) (planned_are names ms) h)

-- ---- what a power cut leaves of tasks, from what it leaves and what is there
module _ (spared : Spared) where
  pub lasting_of : (fault : Option RunFault) (tasks : List Task) (p q : Files × Files) → DoneUntil (jointly spared) tasks p fault q
      → DoneUntil (lasting spared) tasks p.1 fault q.1
  lasting_of None [] p q e = ap (λ (x : Files × Files). x.1) e
  lasting_of (Some f) [] p q e = ap (λ (x : Files × Files). x.1) e
  lasting_of None (task ∷ tasks) p q (mid, done, more) = (mid.1, done.1, lasting_of None tasks mid q more)
  lasting_of (Some f) (task ∷ tasks) p q (inl refused) = inl refused.1
  lasting_of (Some f) (task ∷ tasks) p q (inr (mid, done, more)) = inr (mid.1, done.1, lasting_of (Some f) tasks mid q more)

  -- what is placed may be the first file or not
  pub all_lasts : (tasks : List Task) (s t : Files) → AllDone (leaving spared) tasks s t → AllDone (lasting spared) tasks s t
  all_lasts [] s t e = e
  all_lasts (task ∷ tasks) s t (mid, done, more) = (mid, done.0, all_lasts tasks mid t more)

  pub stopped_lasts : (tasks : List Task) (s t : Files) → Stopped (leaving spared) tasks s t → Stopped (lasting spared) tasks s t
  stopped_lasts [] s t e = e
  stopped_lasts (task ∷ tasks) s t (inl (inl same)) = inl (record { kept = []; are = same; whole = λ is. tt })
  stopped_lasts (task ∷ tasks) s t (inl (inr refused)) = inl refused.0
  stopped_lasts (task ∷ tasks) s t (inr (mid, done, more)) = inr (mid, done.0, stopped_lasts tasks mid t more)

  -- ---- tasks that place nothing
  finds_none : (call : Call) → ((b : List ℕ) → PlacesElsewhere b call) → (s : Files) → FindsNone spared call s
  finds_none (Listing sub) off s = tt
  finds_none (Writing name bytes) off s = tt
  finds_none (Removing name) off s = tt
  finds_none (Placing name place target) off s = absurd (false≢true (sym (off (base target)) ∙ is_name-refl (base target)))

  plain : (fault : Option RunFault) (tasks : List Task) → EachTask PlacesNone tasks → (s t : Files) → DoneUntil (lasting spared) tasks s fault t
      → DoneUntil (leaving spared) tasks s fault t
  plain None [] each s t e = e
  plain (Some f) [] each s t e = e
  plain None (task ∷ tasks) each s t (mid, done, more) =
      (mid, (done, finds_none (call_of task) each.0 s), plain None tasks each.1 mid t more)
  plain (Some f) (task ∷ tasks) each s t (inl refused) = inl (inr (refused, finds_none (call_of task) each.0 s))
  plain (Some f) (task ∷ tasks) each s t (inr (mid, done, more)) =
      inr (mid, (done, finds_none (call_of task) each.0 s), plain (Some f) tasks each.1 mid t more)

  -- ---- messages
  module _ (is_there : List ℕ → Bool) where
    -- of those that are to be delivered there is no file
    abbrev pub AreNew : List Message → Files → Type 0
    AreNew ms s = All (λ m. IsSpared spared m → is_there m.target.base ≡ false → homes s m.target.base ≡ []) ms

    here : (m : Message) → IsTarget m.target → (s : Files) → (IsSpared spared m → homes s m.target.base ≡ [])
        → IsTrue (is_spared_name spared m.target.name) → homes s (base m.target.name) ≡ []
    here m is s none ours =
        let same : m.target.base ≡ base m.target.name = is_name-true _ _ is.under in
        let sp : IsSpared spared m = (and_parts _ _ (ap (is_spared spared) same ∙ ours)).0 in
        subst (λ b. homes s b ≡ []) same (none sp)

    apart : (m n : Message) → IsTarget m.target → IsFalse (is_name m.target.base n.target.base) → IsFalse (has_base n.target.base m.target.name)
    apart m n is off =
        let same : m.target.base ≡ base m.target.name = is_name-true _ _ is.under in
        elim (cases_Bool (has_base n.target.base m.target.name)) [
          | inr out ↦ out
          | inl on ↦
              let alike : n.target.base ≡ m.target.base = is_name-true _ _ on ∙ sym same in
              absurd (false≢true (sym off ∙ (ap (is_name m.target.base) alike ∙ is_name-refl m.target.base)))
        ]

    module _ (m : Message) (ms : List Message) (is : IsTarget m.target) (are : All (λ m. IsTarget m.target) ms) (distinct : AreDistinct (m ∷ ms)) where
      -- the others after a call of this message
      still_new : (call : Call) → ((n : Message) → IsFalse (is_name m.target.base n.target.base) → PlacesElsewhere n.target.base call)
          → (s t : Files) → Leaves spared call s t → AreNew ms s → AreNew ms t
      still_new call off s t leaves new k d below sp out =
          let n = get_or ms k d in
          leaves_none_of spared n.target.base (spared_named spared _ sp (are k d below).named) call
          (off n (distinct 0 (suc k) d (omega arith) (omega (arith, below)))) s t leaves (new k d below sp out)

      written : (s t : Files) → Leaves spared (Writing m.target.base m.body) s t → AreNew ms s → AreNew ms t
      written = still_new (Writing m.target.base m.body) (λ n off. tt)

      placed_new : (s t : Files) → Leaves spared (Placing m.target.base m.target.place m.target.name) s t → AreNew ms s → AreNew ms t
      placed_new = still_new (Placing m.target.base m.target.place m.target.name) (λ n off. apart m n is off)

      own_new : (s t : Files) → Leaves spared (Writing m.target.base m.body) s t → (IsSpared spared m → homes s m.target.base ≡ [])
          → IsSpared spared m → homes t m.target.base ≡ []
      own_new s t leaves none sp =
          leaves_none_of spared m.target.base (spared_named spared _ sp is.named) (Writing m.target.base m.body) tt s t leaves (none sp)

      more_distinct : AreDistinct ms
      more_distinct j k d before below = distinct (suc j) (suc k) d (omega (arith, before)) (omega (arith, below))

    one_first : (fault : Option RunFault) (m : Message) (ms : List Message) → IsTarget m.target → All (λ m. IsTarget m.target) ms → AreDistinct (m ∷ ms)
        → ((s t : Files) → AreNew ms s → DoneUntil (lasting spared) (deliveries_of is_there ms) s fault t
        → DoneUntil (leaving spared) (deliveries_of is_there ms) s fault t)
        → (s t : Files) → (IsSpared spared m → homes s m.target.base ≡ []) → AreNew ms s
        → DoneUntil (lasting spared) (delivery_of m.target m.body ++ deliveries_of is_there ms) s fault t
        → DoneUntil (leaving spared) (delivery_of m.target m.body ++ deliveries_of is_there ms) s fault t
    one_first None m ms is are distinct rest s t none new (a, wrote, (c, put, more)) =
        let none_then = own_new m ms is are distinct s a wrote.0 none in
        let new_then = written m ms is are distinct s a wrote.0 new in (
          a,
          (wrote, tt),
          (c, (put, here m is a none_then), rest c t (placed_new m ms is are distinct a c put.0 new_then) more),
        )
    one_first (Some f) m ms is are distinct rest s t none new (inl refused) = inl (inr (refused, tt))
    one_first (Some f) m ms is are distinct rest s t none new (inr (a, wrote, inl refused)) =
        inr (a, (wrote, tt), inl (inr (refused, here m is a (own_new m ms is are distinct s a wrote.0 none))))
    one_first (Some f) m ms is are distinct rest s t none new (inr (a, wrote, inr (c, put, more))) =
        let none_then = own_new m ms is are distinct s a wrote.0 none in
        let new_then = written m ms is are distinct s a wrote.0 new in
        inr (a, (wrote, tt), inr (c, (put, here m is a none_then), rest c t (placed_new m ms is are distinct a c put.0 new_then) more))

    deliveries_first : (fault : Option RunFault) (ms : List Message) → All (λ m. IsTarget m.target) ms → AreDistinct ms → (s t : Files) → AreNew ms s
        → DoneUntil (lasting spared) (deliveries_of is_there ms) s fault t → DoneUntil (leaving spared) (deliveries_of is_there ms) s fault t
    deliveries_first None [] are distinct s t new h = h
    deliveries_first (Some f) [] are distinct s t new h = h
    deliveries_first fault (m ∷ ms) are distinct s t new h =
        let is = All-head (λ (n : Message). IsTarget n.target) m ms are in
        let more = All-tail (λ (n : Message). IsTarget n.target) m ms are in
        let N = λ (n : Message). IsSpared spared n → is_there n.target.base ≡ false → homes s n.target.base ≡ [] in
        let rest = deliveries_first fault ms more (more_distinct m ms is more distinct) in
        elim (is_there m.target.base) as (λ shown. is_there m.target.base ≡ shown
        → DoneUntil (lasting spared) (cond shown [] (delivery_of m.target m.body) ++ deliveries_of is_there ms) s fault t
        → DoneUntil (leaving spared) (cond shown [] (delivery_of m.target m.body) ++ deliveries_of is_there ms) s fault t) [
          | true ↦ λ on. rest s t (All-tail N m ms new)
          | false ↦ λ off. one_first fault m ms is more distinct rest s t (λ sp. All-head N m ms new sp off) (All-tail N m ms new)
        ] refl h

  -- ---- a run
  module _ (names : Listings) (ms : List Message) (are : All (λ m. IsTarget m.target) ms) (distinct : AreDistinct ms) where
    -- a base that the listings have not shown
    unlisted_none : (p q : Files × Files) → AllDone (jointly spared) (listing_tasks names) p q → (b : List ℕ) → IsTrue (is_spared spared b)
        → is_listed names.new names.cur b ≡ false → homes q.1 b ≡ []
    unlisted_none p q (p1, tmp, (p2, new, (p3, cur, e))) b named off =
        let parts = or_parts _ _ off in
        let there = listed_new spared b named p1.0 names.new p2.0 new.0 parts.0 in
        let none_new = leaves_none_new spared b named Cur p2.1 p3.1 cur.1.0 (new.2 b named parts.0) in
        let none_cur = cur.2 b named parts.1 there (new.2 b named parts.0) in
        let none : homes p3.1 b ≡ [] = rw (none_new, none_cur) refl in
        subst (λ (x : Files × Files). homes x.1 b ≡ []) (sym e) none

    new_then : (s t : Files) → AllDone (lasting spared) (sweep_of names.tmp) s t → AreNew (is_listed names.new names.cur) ms s
        → AreNew (is_listed names.new names.cur) ms t
    new_then s t swept new k d below sp off =
        let m = get_or ms k d in
        tasks_none spared m.target.base (spared_named spared _ sp (are k d below).named) None (sweep_of names.tmp) (sweep_places_none names.tmp) s t swept
        (new k d below sp off)

    rest_first : (fault : Option RunFault) (s t : Files) → AreNew (is_listed names.new names.cur) ms s
        → DoneUntil (lasting spared) (sweep_of names.tmp ++ deliveries_of (is_listed names.new names.cur) ms) s fault t
        → DoneUntil (leaving spared) (sweep_of names.tmp ++ deliveries_of (is_listed names.new names.cur) ms) s fault t
    rest_first None s t new h =
        let sweep = sweep_of names.tmp in
        let deliver = deliveries_of (is_listed names.new names.cur) ms in
        let r = all_parts (lasting spared) sweep deliver s t h in
        done_then (leaving spared) sweep deliver s r.0 t None (plain None sweep (sweep_places_none names.tmp) s r.0 r.1)
        (deliveries_first (is_listed names.new names.cur) None ms are distinct r.0 t (new_then s r.0 r.1 new) r.2)
    rest_first (Some f) s t new h =
        let sweep = sweep_of names.tmp in
        let deliver = deliveries_of (is_listed names.new names.cur) ms in
        elim (stopped_parts (lasting spared) sweep deliver s t h) [
          | inl early ↦
              stopped_before (leaving spared) leaving_stops sweep deliver s t (plain (Some f) sweep (sweep_places_none names.tmp) s t early)
          | inr (mid, all, more) ↦
              done_then (leaving spared) sweep deliver s mid t (Some f) (plain None sweep (sweep_places_none names.tmp) s mid all)
              (deliveries_first (is_listed names.new names.cur) (Some f) ms are distinct mid t (new_then s mid all new) more)
        ]

    are_new : (p q : Files × Files) → AllDone (jointly spared) (listing_tasks names) p q → AreNew (is_listed names.new names.cur) ms q.1
    are_new p q listed k d below sp off =
        let m = get_or ms k d in unlisted_none p q listed m.target.base (spared_named spared _ sp (are k d below).named) off

    listings_plain : EachTask PlacesNone (listing_tasks names)
    listings_plain = ((λ b. tt), ((λ b. tt), ((λ b. tt), tt)))

    pub run_first : (fault : Option RunFault) (p q : Files × Files) → DoneUntil (jointly spared) (run_tasks names ms) p fault q
        → DoneUntil (leaving spared) (run_tasks names ms) p.1 fault q.1
    run_first None p q h =
        let look = listing_tasks names in
        let rest = sweep_of names.tmp ++ deliveries_of (is_listed names.new names.cur) ms in
        let r = all_parts (jointly spared) look rest p q h in
        done_then (leaving spared) look rest p.1 r.0.1 q.1 None (plain None look listings_plain p.1 r.0.1 (lasting_of None look p r.0 r.1))
        (rest_first None r.0.1 q.1 (are_new p r.0 r.1) (lasting_of None rest r.0 q r.2))
    run_first (Some f) p q h =
        let look = listing_tasks names in
        let rest = sweep_of names.tmp ++ deliveries_of (is_listed names.new names.cur) ms in
        elim (stopped_parts (jointly spared) look rest p q h) [
          | inl early ↦
              stopped_before (leaving spared) leaving_stops look rest p.1 q.1
              (plain (Some f) look listings_plain p.1 q.1 (lasting_of (Some f) look p q early))
          | inr (mid, all, more) ↦
              done_then (leaving spared) look rest p.1 mid.1 q.1 (Some f)
              (plain None look listings_plain p.1 mid.1 (lasting_of None look p mid all))
              (rest_first (Some f) mid.1 q.1 (are_new p mid all) (lasting_of (Some f) rest mid q more))
        ]
