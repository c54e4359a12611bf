use Rattle.std.proofs.Common.{arith, take_all}
use Rattle.mbox_text.proofs.FromLine.BuiltLines.{before-found, before-none}
use Rattle.mbox_text.proofs.sender.first_space.Goals as goal

pub returns-in-Some-clause-before : goal.returns-in-Some-clause-before
returns-in-Some-clause-before c = before-found _ c.in-Some.ensures

pub returns-in-None-clause-before : goal.returns-in-None-clause-before
returns-in-None-clause-before c = grind (arith, take_all, before-none)
