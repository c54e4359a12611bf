use Rattle.mbox_text.proofs.Common.{◌≡◌, ◌≤◌, ◌-◌, length, drop, past_spaces}
use Rattle.mbox_text.proofs.sender.without_spaces.Given as goal

abbrev pub invariant-loop-at : goal.invariant-loop-at
invariant-loop-at l = record { within : l.at ≤ length l.bytes; same : past_spaces (drop l.at l.bytes) ≡ past_spaces l.bytes }

abbrev pub decreases-loop-at : goal.decreases-loop-at
decreases-loop-at l = length l.bytes - l.at
