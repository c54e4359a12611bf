-- The plan of a list of targets, from those of each target alone.
use Rattle.std.proofs.Common.{◌≡◌, ℕ, suc, ◌<◌, take, get_or, length, arith, ◌+◌, Bool, cond, List, [], ◌∷◌, ◌++◌, map}
use Rattle.std.proofs.Common.{refl, sym, ap, ◌∙◌, append_assoc, append-nil, length-take-le, length-append, filter, flat_map}
use Rattle.maildir_run.proofs.Common.{take_more, Target, Step, Write, Place, is_listed, removals, steps_for, deliveries_from, planned}
use Rattle.maildir_run.proofs.Common.{each_alone, drop-append_seam, flat_map-append, is_converter_name, Remove, Removing, Message, Do, Listings}
use Rattle.maildir_run.proofs.Common.{listing_tasks, task_of, tasks_of, planned_tasks, sweep_of, delivery_of, delivery_if, deliveries_of}
use Rattle.maildir_run.specs.Plan.{shifted}

alone_is : (i : ℕ) (new cur : List (List ℕ)) (target : Target) → map (shifted i) (planned [] new cur (target ∷ [])) ≡ steps_for (is_listed new cur) i target
alone_is i new cur target = grind arith

deliveries_each_alone : (i : ℕ) (new cur : List (List ℕ)) (targets : List Target) → deliveries_from (is_listed new cur) i targets ≡ each_alone i new cur targets
deliveries_each_alone i new cur [] = refl
deliveries_each_alone i new cur (target ∷ targets) =
    ap (λ xs. steps_for (is_listed new cur) i target ++ xs) (deliveries_each_alone (i + 1) new cur targets)
    ∙ ap (λ xs. xs ++ each_alone (i + 1) new cur targets) (sym (alone_is i new cur target))

pub planned_each_alone : (tmp new cur : List (List ℕ)) (targets : List Target)
    → planned tmp new cur targets ≡ planned tmp new cur [] ++ each_alone 0 new cur targets
planned_each_alone tmp new cur targets = grind (arith, deliveries_each_alone, append-nil)

-- ---- the loops of the planner
pub deliveries_from-push : (is_there : List ℕ → Bool) (i : ℕ) (targets : List Target) (target : Target)
    → deliveries_from is_there i (targets ++ target ∷ []) ≡ deliveries_from is_there i targets ++ steps_for is_there (i + length targets) target
deliveries_from-push is_there i [] target = grind arith
deliveries_from-push is_there i (x ∷ targets) target =
    ap (λ xs. steps_for is_there i x ++ xs)
    (deliveries_from-push is_there (i + 1) targets target ∙ ap (λ k. deliveries_from is_there (i + 1) targets ++ steps_for is_there k target) (omega arith))
    ∙ sym (append_assoc (steps_for is_there i x) (deliveries_from is_there (i + 1) targets) (steps_for is_there (i + suc (length targets)) target))

-- one more target of a list
module _ (is_there : List ℕ → Bool) (targets : List Target) (i : ℕ) (d : Target) where
  pub deliveries-more : i < length targets
      → deliveries_from is_there 0 (take (i + 1) targets) ≡ deliveries_from is_there 0 (take i targets) ++ steps_for is_there i (get_or targets i d)
  deliveries-more h =
      ap (deliveries_from is_there 0) (take_more targets i d h)
      ∙ deliveries_from-push is_there 0 (take i targets) (get_or targets i d)
      ∙ ap (λ k. deliveries_from is_there 0 (take i targets) ++ steps_for is_there k (get_or targets i d))
      (omega (arith, length-take-le i targets (omega arith)))

  pub deliveries-step : (before now after : List Step) (shown : Bool) → i < length targets
      → is_there (get_or targets i d).base ≡ shown → now ≡ before ++ deliveries_from is_there 0 (take i targets)
      → after ≡ now ++ cond shown [] (Write i ∷ Place i ∷ []) → after ≡ before ++ deliveries_from is_there 0 (take (i + 1) targets)
  deliveries-step before now after shown h is had added = grind (arith, append_assoc, deliveries-more)

-- ---- the removals
swept_each : (ms : List Message) (names : List (List ℕ)) → flat_map (task_of ms) (map Remove names) ≡ map (λ name. Do (Removing name)) names
swept_each ms [] = refl
swept_each ms (name ∷ names) = ap (λ ts. Do (Removing name) ∷ ts) (swept_each ms names)

pub plan_sweeps : (tmp : List (List ℕ)) → tasks_of [] (planned tmp [] [] []) ≡ sweep_of tmp
plan_sweeps tmp = ap (flat_map (task_of [])) (append-nil (removals tmp)) ∙ swept_each [] (filter is_converter_name tmp)

-- ---- the deliveries
tasks_of_steps_for : (is_there : List ℕ → Bool) (before ms : List Message) (m : Message) (shown : Bool)
    → flat_map (task_of (before ++ m ∷ ms)) (cond shown [] (Write (length before) ∷ Place (length before) ∷ [])) ≡ cond shown [] (delivery_of m.target m.body)
tasks_of_steps_for is_there before ms m shown = grind (arith, drop-append_seam)

each_delivery : (is_there : List ℕ → Bool) (before ms : List Message) (i : ℕ) → i ≡ length before
    → flat_map (task_of (before ++ ms)) (deliveries_from is_there i (map (λ (m : Message). m.target) ms)) ≡ deliveries_of is_there ms
each_delivery is_there before [] i e = refl
each_delivery is_there before (m ∷ ms) i e =
    let f = task_of (before ++ m ∷ ms) in
    let more : List Message = before ++ m ∷ [] in
    flat_map-append f (steps_for is_there i m.target) (deliveries_from is_there (i + 1) (map (λ (n : Message). n.target) ms))
    ∙ ap (λ ts. ts ++ flat_map f (deliveries_from is_there (i + 1) (map (λ (n : Message). n.target) ms)))
    (ap (λ k. flat_map f (steps_for is_there k m.target)) e ∙ tasks_of_steps_for is_there before ms m (is_there m.target.base))
    ∙ ap (λ ts. delivery_if is_there m ++ ts)
    (rw (append_assoc before (m ∷ []) ms) at (each_delivery is_there more ms (i + 1) (omega (arith, e, length-append before (m ∷ [])))))

pub planned_are : (names : Listings) (ms : List Message)
    → planned_tasks names ms ≡ listing_tasks names ++ (sweep_of names.tmp ++ deliveries_of (is_listed names.new names.cur) ms)
planned_are names ms =
    ap (λ ts. listing_tasks names ++ ts)
    (flat_map-append (task_of ms) (removals names.tmp) (deliveries_from (is_listed names.new names.cur) 0 (map (λ (m : Message). m.target) ms))
    ∙ ap (λ ts. ts ++ flat_map (task_of ms) (deliveries_from (is_listed names.new names.cur) 0 (map (λ (m : Message). m.target) ms)))
    (swept_each ms (filter is_converter_name names.tmp))
    ∙ ap (λ ts. sweep_of names.tmp ++ ts) (each_delivery (is_listed names.new names.cur) [] ms 0 refl))
