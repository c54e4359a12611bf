use Rattle.std.proofs.Common.{arith}
use Rattle.maildir_run.proofs.Call.Moves.{placing, placing_ok}
use Rattle.maildir_run.proofs.laws.place_delivers_one.Goals as goal

pub returns-clause-any : goal.returns-clause-any
returns-clause-any c = grind (arith, placing)

pub returns-clause-ok : goal.returns-clause-ok
returns-clause-ok c = λ spared b name target place old new named ours on e done.
    let a = placing_ok spared b name place target named ours on old new done e in (a.bytes, a.was, a.homes_are)
