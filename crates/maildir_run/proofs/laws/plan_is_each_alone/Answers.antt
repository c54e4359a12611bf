use Rattle.std.proofs.Common.{arith}
use Rattle.maildir_run.proofs.Tasks.PlanLemmas.{planned_each_alone}
use Rattle.maildir_run.proofs.laws.plan_is_each_alone.Goals as goal

pub returns : goal.returns
returns c = grind (arith, planned_each_alone)
