use Rattle.std.proofs.Common.{arith}
use Rattle.maildir_name.proofs.FlagLemmas.{lines_some, lines_none}
use Rattle.maildir_name.proofs.flags.line_len.Goals as goal

pub returns-in-Some-clause-first : goal.returns-in-Some-clause-first
returns-in-Some-clause-first c = grind (arith, lines_some)

pub returns-in-None-clause-first : goal.returns-in-None-clause-first
returns-in-None-clause-first c = grind (arith, lines_none)
