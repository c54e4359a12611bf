use Rattle.std.proofs.Common.{arith}
use Rattle.mbox_text.proofs.TextLines.LineLemmas.{unquoted-plain, unquoted_cases}
use Rattle.mbox_text.proofs.quoting.is_quoted.Goals as goal

pub returns-then-line-eq0 : goal.returns-then-line-eq0
returns-then-line-eq0 c = grind (arith, unquoted-plain)

pub returns : goal.returns
returns c = grind (arith, unquoted_cases)
