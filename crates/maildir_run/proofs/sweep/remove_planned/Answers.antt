use Rattle.std.proofs.Common.{◌≡◌, ℕ, List, ◌∷◌, [], length, take, map, ap, sym, ◌∙◌, arith, refl, append-nil, take_all, rules}
use Rattle.maildir_run.proofs.Common.{Removing, Writing, Placing, Message, Do, task_of, tasks_of, drop-nil, Step, Remove, Write, Place}
use Rattle.maildir_run.proofs.Tasks.Tasks.{ran_none, ran_then, ran_before, ran_err, next_step, other_steps, next_count}
use Rattle.maildir_run.proofs.sweep.remove_planned.Goals.{in-Remove+in_ok-remove, in_default}
use Rattle.maildir_run.proofs.sweep.remove_planned.Goals as goal

none_removed : (step : Step) → ((name : List ℕ) → step ≡ Remove name → ⊥) → task_of [] step ≡ []
none_removed (Remove name) other = absurd (other name refl)
none_removed (Write i) other = ap (λ (ms : List Message). map (λ (m : Message). Do (Writing m.target.base m.body)) (take 1 ms)) (drop-nil i)
none_removed (Place i) other =
    ap (λ (ms : List Message). map (λ (m : Message). Do (Placing m.target.base m.target.place m.target.name)) (take 1 ms)) (drop-nil i)

pub loop-step-init : goal.loop-step-init
loop-step-init g c = search (rules, ran_none)

pub returns-clause-ran : goal.returns-clause-ran
returns-clause-ran g c = rw (take_all _ _ c.loop-step-test.false) at c.loop-step.invariant.ran

pub returns-in_err-remove-clause-ran : goal.returns-in_err-remove-clause-ran
returns-in_err-remove-clause-ran g c =
    let tasks = ap (task_of []) c.in-Remove.is ∙ ap (λ n. Do (Removing n) ∷ []) (sym c.as_str.ensures) in
    rw (other_steps (task_of []) c.args.steps.now c.loop-step.step-index c.step-item.result c.loop-step-test.true c.step-item.is _ tasks)
    (ran_err _ c.from_residual.ensures.1 (ran_then c.loop-step.invariant.ran (ran_before _ c.in_err-remove.ensures.ran)))

pub loop-step-preserved : goal.loop-step-preserved
loop-step-preserved g c =
    let steps = c.args.steps.now in
    let i = c.loop-step.step-index in
    let before = c.loop-step.invariant in
    elim c.match-step.branch [
      | in-Remove+in_ok-remove w ↦
          let tasks = ap (task_of []) w.in-Remove.is ∙ ap (λ n. Do (Removing n) ∷ []) (sym w.as_str.ensures) in
          rw (w.folder-is, w.calls-is, w.swept-is) (record {
            ran =
                rw (next_step (task_of []) steps i c.step-item.result c.loop-step-test.true c.step-item.is _ tasks)
                (ran_then before.ran w.in_ok-remove.ensures.ran);
            count = next_count (task_of []) steps i c.step-item.result c.loop-step-test.true c.step-item.is _ tasks _ before.count;
            few = omega (arith, before.few);
          })
      | in_default w ↦
          let tasks = none_removed c.step-item.result w.in_default.not-Remove in
          rw (w.folder-is, w.calls-is, w.swept-is) (record {
            ran = rw (next_step (task_of []) steps i c.step-item.result c.loop-step-test.true c.step-item.is _ tasks, append-nil) before.ran;
            count =
                before.count ∙ ap length (sym (next_step (task_of []) steps i c.step-item.result c.loop-step-test.true c.step-item.is _ tasks
                ∙ append-nil (tasks_of [] (take i steps))));
            few = omega (arith, before.few);
          })
    ]
