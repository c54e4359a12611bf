use Rattle.maildir_run.proofs.Tasks.PlanLemmas.{planned_are}
use Rattle.maildir_run.proofs.laws.runs_are_planned.Goals as goal

pub returns : goal.returns
returns c = λ names ms. planned_are names ms
