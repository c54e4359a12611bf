use Rattle.std.proofs.Common.{◌≡◌, ◌++◌, take}
use Rattle.maildir_run.proofs.Common.{contains_key, deliveries_from}
use Rattle.maildir_run.proofs.planner.add_deliveries.Given as goal

abbrev pub invariant-loop-i : goal.invariant-loop-i
invariant-loop-i l = l.steps.items ≡ l.fn.steps.items ++ deliveries_from (contains_key l.there) 0 (take l.i l.targets)
