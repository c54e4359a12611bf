use Rattle.mbox_text.proofs.Common.{arith, take_rest}
use Rattle.mbox_text.proofs.TextLines.LineLemmas.{quotable-mark, quotable-stop}
use Rattle.mbox_text.proofs.quoting.is_quotable.Goals as goal

pub loop-at-preserved : goal.loop-at-preserved
loop-at-preserved c = grind (arith, quotable-mark)

pub returns : goal.returns
returns c = grind (arith, take_rest, quotable-stop)
