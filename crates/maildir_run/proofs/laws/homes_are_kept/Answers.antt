use Rattle.std.proofs.Common.{arith}
use Rattle.maildir_run.proofs.Call.Homes.{acted_kept}
use Rattle.maildir_run.proofs.Call.Moves.{after_kept}
use Rattle.maildir_run.proofs.laws.homes_are_kept.Goals as goal

pub returns-clause-acted : goal.returns-clause-acted
returns-clause-acted c = λ spared b action s named. acted_kept spared b named action s

pub returns-clause-moved : goal.returns-clause-moved
returns-clause-moved c = grind (arith, after_kept)
