use Rattle.mbox_text.proofs.Common.{arith, eqb-true, eqb-false, pushed}
use Rattle.mbox_text.proofs.FromLine.BuiltLines.{built-none, built-some}
use Rattle.mbox_text.proofs.build.join.Goals as goal

pub returns : goal.returns
returns c = grind (arith, pushed, built-some, eqb-false, built-none, eqb-true)
