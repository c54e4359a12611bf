use Rattle.std.proofs.Common.{◌-◌, length}
use Rattle.mbox_text.proofs.Written.Quotable.{Plain}
use Rattle.mbox_text.proofs.quoting.find_quotable.Given as goal

abbrev pub invariant-loop-n : goal.invariant-loop-n
invariant-loop-n l = Plain l.text l.at

abbrev pub decreases-loop-n : goal.decreases-loop-n
decreases-loop-n l = length l.text - l.at
