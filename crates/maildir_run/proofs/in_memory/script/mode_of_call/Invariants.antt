use Rattle.std.proofs.Common.{◌≡◌, drop}
use Rattle.maildir_run.proofs.Common.{mode_at}
use Rattle.maildir_run.proofs.in_memory.script.mode_of_call.Given as goal

abbrev pub invariant-loop-line : goal.invariant-loop-line
invariant-loop-line l = mode_at (drop l.line-index l.lines) l.call ≡ mode_at l.lines l.call
