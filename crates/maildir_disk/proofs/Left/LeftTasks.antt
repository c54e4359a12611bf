-- What a power cut leaves of the tasks of a run.
use Rattle.std.proofs.Common.{◌≡◌, ℕ, ◌<◌, ◌^◌, length, get_or, Bool, true, false, cond, List, [], ◌∷◌, ◌++◌, ◌⊎◌, All, IsTrue, IsFalse, Result, Ok, Err, sym}
use Rattle.std.proofs.Common.{ap, subst, inl, inr, arith}
use Rattle.maildir_disk.proofs.Common.{cases_Bool, cases_order, false≢true, All-head, All-tail, Writing, Placing}
use Rattle.maildir_disk.proofs.Common.{Follows, Spared, is_spared, is_spared_name, spared_named}
use Rattle.maildir_disk.proofs.Common.{PlacesElsewhere, Leaves, Message, AreNamed, AreDistinct, Files, is_name, has_base, MessagesOf, converters, is_name-true}
use Rattle.maildir_disk.proofs.Common.{is_name-refl, text_named, text_targets, text_distinct, AreAlike}
use Rattle.std.proofs.lemmas.List.{get_or_default}
use Rattle.maildir_name.specs.declared.target.Target.{Target}
use Rattle.maildir_run.specs.Parts.{sweep_of, delivery_of, delivery_if, deliveries_of}
use Rattle.maildir_run.specs.Plan.{is_listed}
use Rattle.maildir_run.specs.Private.Progress.{IsTarget}
use Rattle.maildir_run.specs.Tasks.{Task, Do, call_of, AllDone, Stopped, Performs, leaving, Listings, LeavesDone, listing_tasks, planned_tasks}
use Rattle.maildir_run.specs.Private.Tasks.{lasting}
use Rattle.maildir_run.proofs.Tasks.Firsts.{all_lasts, planned_once, stopped_lasts}
use Rattle.maildir_run.specs.Counting.{fault_of}
use Rattle.maildir_disk.proofs.Common.{RunFault}
use Rattle.maildir_run.proofs.Tasks.PlanLemmas.{planned_are}
use Rattle.maildir_run.proofs.Tasks.TaskEffects.{EachTask, PlacesNone, all_parts, stopped_parts, listings_place_none, sweep_places_none}
use Rattle.maildir_disk.proofs.Left.LeftHomes.{HoldsAt, SteadyAt, steady_same, steady_then, leaves_elsewhere, leaves_placing, AllHold}

-- how what a power cut leaves changes in a run with this answer
abbrev pub RunLeaves : (spared : Spared) {A E : Type 0} → List Message → (Files → Type 0) → Result A E → (Files → Type 0) → Type 0
RunLeaves spared ms before answer now = Follows (λ old new. (names : Listings) × Performs (leaving spared) (planned_tasks names ms) old answer new) before now

-- ---- the parts of a list of tasks
-- what a power cut leaves of tasks that all succeeded, or of which one failed
abbrev pub LeavesTasks : (spared : Spared) (ended : Bool) → List Task → Files → Files → Type 0
LeavesTasks spared true tasks old new = AllDone (lasting spared) tasks old new
LeavesTasks spared false tasks old new = Stopped (lasting spared) tasks old new

left_of_no_tasks : (spared : Spared) (ended : Bool) {old new : Files} → LeavesTasks spared ended [] old new → new ≡ old
left_of_no_tasks spared true e = e
left_of_no_tasks spared false e = e

one_done : (spared : Spared) (task : Task) (old new : Files) → LeavesTasks spared true (task ∷ []) old new → LeavesDone spared task old new
one_done spared task old new (mid, done, e) = grind arith

one_left : (spared : Spared) (ended : Bool) (task : Task) {old new : Files} → LeavesTasks spared ended (task ∷ []) old new
    → Leaves spared (call_of task) old new
one_left spared true task {old} {new} h = (one_done spared task old new h).0
one_left spared false task (inl refused) = refused
one_left spared false task {old} {new} (inr done) = (one_done spared task old new done).0

-- the tasks failed within the first part, or after it
abbrev pub InParts : (spared : Spared) (ended : Bool) (xs ys : List Task) (old new : Files) → Type 0
InParts spared ended xs ys old new =
    LeavesTasks spared ended xs old new ⊎ ((mid : Files) × LeavesTasks spared true xs old mid × LeavesTasks spared ended ys mid new)

parts_left : (spared : Spared) (ended : Bool) (xs ys : List Task) (old new : Files) → LeavesTasks spared ended (xs ++ ys) old new
    → InParts spared ended xs ys old new
parts_left spared true xs ys old new h = inr (all_parts (lasting spared) xs ys old new h)
parts_left spared false xs ys old new h = stopped_parts (lasting spared) xs ys old new h

performs_left : (spared : Spared) {A E : Type 0} {tasks : List Task} {old new : Files} (r : Result A E)
    → Performs (leaving spared) tasks old r new → (ended : Bool) × LeavesTasks spared ended tasks old new
performs_left spared {tasks = tasks} {old} {new} (Ok _) h = (true, all_lasts spared tasks old new h)
performs_left spared {tasks = tasks} {old} {new} (Err _) h = (false, stopped_lasts spared tasks old new h)

-- ---- a base at which no message has another body than these bytes
module _ (spared : Spared) (b x : List ℕ) (named : IsTrue (is_spared spared b)) where
  -- after these tasks, a power cut leaves at the base what it left before, or these bytes
  abbrev pub AreSteady : List Task → Type 0
  AreSteady tasks = (ended : Bool) (old new : Files) → LeavesTasks spared ended tasks old new → SteadyAt b x old new

  none_steady : AreSteady []
  none_steady ended old new h = grind (arith, left_of_no_tasks, steady_same)

  both_steady : (xs ys : List Task) → AreSteady xs → AreSteady ys → AreSteady (xs ++ ys)
  both_steady xs ys first then ended old new h =
      elim (parts_left spared ended xs ys old new h) [
        | inl prefix ↦ first ended old new prefix
        | inr (mid, all, more) ↦ steady_then b x old mid new (first true old mid all) (then ended mid new more)
      ]

  elsewhere_steady : (task : Task) → PlacesElsewhere b (call_of task) → AreSteady (task ∷ [])
  elsewhere_steady task off ended old new h = grind (arith, leaves_elsewhere, one_left)

  all_elsewhere : (tasks : List Task) → EachTask PlacesNone tasks → AreSteady tasks
  all_elsewhere [] off = none_steady
  all_elsewhere (task ∷ tasks) off = both_steady (task ∷ []) tasks (elsewhere_steady task (off.0 b)) (all_elsewhere tasks off.1)

  -- a message of another base
  other_steady : (t : Target) (body : List ℕ) → has_base b t.name ≡ false → AreSteady (delivery_of t body)
  other_steady t body off =
      both_steady (Do (Writing t.base body) ∷ []) (Do (Placing t.base t.place t.name) ∷ [])
      (elsewhere_steady (Do (Writing t.base body)) tt) (elsewhere_steady (Do (Placing t.base t.place t.name)) off)

  -- a message of the base, which is placed after it was written
  own_steady : (t : Target) → IsTrue (is_spared_name spared t.base) → has_base b t.name ≡ true → AreSteady (delivery_of t x)
  own_steady t ours on ended old new h =
      let write = Do (Writing t.base x) in
      let place = Do (Placing t.base t.place t.name) in
      elim (parts_left spared ended _ _ old new h) [
        | inl prefix ↦ elsewhere_steady write tt ended old new prefix
        | inr (mid, wrote, put) ↦
            steady_then b x old mid new (elsewhere_steady write tt true old mid wrote)
            (leaves_placing b x spared named t.base t.place t.name ours on (one_done spared write old mid wrote).1 (one_left spared ended place put))
      ]

  delivery_steady : (m : Message) → IsTarget m.target → (m.target.base ≡ b → m.body ≡ x) → AreSteady (delivery_of m.target m.body)
  delivery_steady m is body = grind (arith, is_name-true, cases_Bool, own_steady, converters, other_steady)

  delivery_if_steady : (shown : Bool) (m : Message) → AreSteady (delivery_of m.target m.body) → AreSteady (cond shown [] (delivery_of m.target m.body))
  delivery_if_steady true m steady = none_steady
  delivery_if_steady false m steady = steady

  deliveries_steady : (is_there : List ℕ → Bool) (ms : List Message) → All (λ m. IsTarget m.target) ms
      → All (λ m. m.target.base ≡ b → m.body ≡ x) ms → AreSteady (deliveries_of is_there ms)
  deliveries_steady is_there [] are bodies = none_steady
  deliveries_steady is_there (m ∷ ms) are bodies =
      both_steady (delivery_if is_there m) (deliveries_of is_there ms)
      (delivery_if_steady (is_there m.target.base) m
      (delivery_steady m (All-head (λ (n : Message). IsTarget n.target) m ms are) (All-head (λ (n : Message). n.target.base ≡ b → n.body ≡ x) m ms bodies)))
      (deliveries_steady is_there ms (All-tail (λ (n : Message). IsTarget n.target) m ms are)
      (All-tail (λ (n : Message). n.target.base ≡ b → n.body ≡ x) m ms bodies))

  planned_steady : (names : Listings) (ms : List Message) → All (λ m. IsTarget m.target) ms
      → All (λ m. m.target.base ≡ b → m.body ≡ x) ms → AreSteady (planned_tasks names ms)
  planned_steady names ms are bodies =
      let sweep = sweep_of names.tmp in
      let deliveries = deliveries_of (is_listed names.new names.cur) ms in
      subst AreSteady (sym (planned_are names ms))
      (both_steady (listing_tasks names) (sweep ++ deliveries) (all_elsewhere (listing_tasks names) (listings_place_none names))
      (both_steady sweep deliveries (all_elsewhere sweep (sweep_places_none names.tmp)) (deliveries_steady (is_listed names.new names.cur) ms are bodies)))

  run_holds : {A E : Type 0} (names : Listings) (ms : List Message) → All (λ m. IsTarget m.target) ms → All (λ m. m.target.base ≡ b → m.body ≡ x) ms
      → (old : Files) (r : Result A E) (new : Files) → Performs (leaving spared) (planned_tasks names ms) old r new → SteadyAt b x old new
  run_holds names ms are bodies old r new h =
      let left = performs_left spared r h in
      planned_steady names ms are bodies left.0 old new left.1

-- ---- no two messages of a text have the same base
differ : (m n : Message) → IsFalse (is_name m.target.base n.target.base) → m.target.base ≡ n.target.base → ⊥
differ m n apart alike = grind (arith, false≢true, is_name-refl)

pub own_bodies : (ms : List Message) → AreDistinct ms → AreAlike ms ms
own_bodies ms distinct k d below j e there =
    let m = get_or ms k d in
    let n = get_or ms j d in
    subst (λ (o : Message). o.target.base ≡ m.target.base → o.body ≡ m.body) (get_or_default ms j d e there) (λ alike.
    elim (cases_order j k) [
      | inl same ↦ ap (λ i. (get_or ms i d).body) same
      | inr (inl before) ↦ absurd (differ n m (distinct j k d before below) alike)
      | inr (inr after) ↦ absurd (differ m n (distinct k j d after there) (sym alike))
    ])

-- ---- the messages of a text
module _ (spared : Spared) (t : List ℕ) (ms : List Message) (are : MessagesOf t ms) (small : length t < 2 ^ 63) (names : Listings) {A : Type 0}
    (before : Files) (r : Result A RunFault) (now : Files) (ran : Performs (leaving spared) (planned_tasks names ms) before r now) where
  text_holds : (m : Message) → IsTrue (is_spared spared m.target.base) → All (λ n. n.target.base ≡ m.target.base → n.body ≡ m.body) ms
      → HoldsAt spared m before now
  text_holds m named bodies = record {
    steady = run_holds spared m.target.base m.body named names ms (text_targets t ms are small) bodies before r now ran;
    once = λ whole. planned_once spared m.target.base named whole names ms (text_targets t ms are small) (fault_of r) before now ran;
  }

  pub texts_hold : (others : List Message) → AreNamed others → AreAlike others ms → AllHold spared others before now
  texts_hold others named alike k d below sp =
      text_holds (get_or others k d) (spared_named spared _ sp (named k d below)) (alike k d below)

  pub own_hold : AllHold spared ms before now
  own_hold = texts_hold ms (text_named t ms are small) (own_bodies ms (text_distinct t ms are small))
