use Rattle.std.proofs.Common.{arith}
use Rattle.mbox_text.proofs.Written.WrittenBody.{missing-empty, missing-some, missing-none}
use Rattle.mbox_text.proofs.write.missing_end.Goals as goal

pub returns-then-is_empty : goal.returns-then-is_empty
returns-then-is_empty c = grind (arith, missing-empty, missing-none)

pub returns : goal.returns
returns c = grind (arith, missing-some)
