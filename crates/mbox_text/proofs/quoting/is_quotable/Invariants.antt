use Rattle.mbox_text.proofs.Common.{◌≡◌, ◌≤◌, ◌-◌, length, drop, quotable}
use Rattle.mbox_text.proofs.quoting.is_quotable.Given as goal

abbrev pub invariant-loop-at : goal.invariant-loop-at
invariant-loop-at l = record { within : l.at ≤ length l.line; same : quotable (drop l.at l.line) ≡ quotable l.line }

abbrev pub decreases-loop-at : goal.decreases-loop-at
decreases-loop-at l = length l.line - l.at
