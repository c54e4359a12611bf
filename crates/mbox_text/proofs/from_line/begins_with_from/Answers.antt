use Rattle.std.proofs.Common.{arith}
use Rattle.mbox_text.proofs.TextLines.LineLemmas.{begins_from-starts}
use Rattle.mbox_text.proofs.from_line.begins_with_from.Goals as goal

pub returns : goal.returns
returns c = grind (arith, begins_from-starts)
