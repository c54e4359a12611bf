use Rattle.std.proofs.Common.{◌≡◌, ◌≤◌, [], take, length, None}
use Rattle.maildir_run.proofs.Common.{tasks_of, Performed}
use Rattle.maildir_run.proofs.sweep.remove_planned.Given as goal

abbrev pub invariant-loop-step : goal.invariant-loop-step
invariant-loop-step g l =
    let at = g.F.Folder.at in
    record {
      ran : Performed (tasks_of [] (take l.step-index l.steps)) (at l.fn.folder) (at l.folder) l.fn.calls.made l.calls.made None;
      count : l.swept ≡ length (tasks_of [] (take l.step-index l.steps));
      few : l.swept ≤ l.step-index;
    }
