use Rattle.std.proofs.Common.{arith}
use Rattle.mbox_text.proofs.TextLines.LineLemmas.{begins_with-starts}
use Rattle.mbox_text.proofs.from_line.is_from_start.Goals as goal

pub returns : goal.returns
returns c = grind (arith, begins_with-starts)
