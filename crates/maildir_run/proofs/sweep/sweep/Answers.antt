use Rattle.std.proofs.Common.{[], map, string_bytes, ap, ◌∙◌, inr, arith}
use Rattle.maildir_run.proofs.Common.{tasks_of}
use Rattle.maildir_run.proofs.Tasks.PlanLemmas.{plan_sweeps}
use Rattle.maildir_run.proofs.Tasks.Tasks.{ran_nothing, ran_err}
use Rattle.maildir_run.proofs.sweep.sweep.Goals as goal

pub returns-in_err-steps-clause-ran : goal.returns-in_err-steps-clause-ran
returns-in_err-steps-clause-ran g c =
    ran_err _ c.from_residual.ensures.1 (ran_nothing (inr (inr (inr c.in_err-steps.ensures.refused))))

pub returns : goal.returns
returns g c =
    let tasks = ap (tasks_of []) (c.deref.ensures.value ∙ c.in_ok-steps.ensures.exact) ∙ plan_sweeps (map string_bytes c.args.listed.now) in
    grind arith
