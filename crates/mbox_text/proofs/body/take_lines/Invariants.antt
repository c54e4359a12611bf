use Rattle.std.proofs.Common.{◌-◌, length}
use Rattle.mbox_text.proofs.Splitting.Runs.{LinesTaken}
use Rattle.mbox_text.proofs.body.take_lines.Given as goal

abbrev pub invariant-loop-n : goal.invariant-loop-n
invariant-loop-n l = LinesTaken l.text l.initial.body.items l.body.items l.at

abbrev pub decreases-loop-n : goal.decreases-loop-n
decreases-loop-n l = length l.text - l.at
