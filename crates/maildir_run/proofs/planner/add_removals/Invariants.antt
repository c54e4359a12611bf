use Rattle.std.proofs.Common.{◌≡◌, ◌++◌, map, take, string_bytes}
use Rattle.maildir_run.proofs.Common.{removals}
use Rattle.maildir_run.proofs.planner.add_removals.Given as goal

abbrev pub invariant-loop-name : goal.invariant-loop-name
invariant-loop-name l = l.steps.items ≡ l.fn.steps.items ++ removals (map string_bytes (take l.name-index l.tmp))
