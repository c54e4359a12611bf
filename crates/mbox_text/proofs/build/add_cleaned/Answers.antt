use Rattle.mbox_text.proofs.Common.{arith, take_all, eqb-true, eqb-false}
use Rattle.mbox_text.proofs.FromLine.BuiltLines.{extended_by, cleaned-none, cleaned-some}
use Rattle.mbox_text.proofs.build.add_cleaned.Goals as goal

pub returns-then-is_empty : goal.returns-then-is_empty
returns-then-is_empty c = grind (arith, extended_by, cleaned-none, eqb-true)

pub returns : goal.returns
returns c = grind (arith, take_all, cleaned-some, eqb-false)
