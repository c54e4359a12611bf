use Rattle.std.proofs.Common.{◌-◌, length}
use Rattle.mbox_text.proofs.Written.WrittenBody.{WrittenTo}
use Rattle.mbox_text.proofs.write.write_body.Given as goal

abbrev pub invariant-loop-n : goal.invariant-loop-n
invariant-loop-n g l = WrittenTo l.body (g.W.Write.contents l.initial.out) (g.W.Write.contents l.out) l.at

abbrev pub decreases-loop-n : goal.decreases-loop-n
decreases-loop-n g l = length l.body - l.at
