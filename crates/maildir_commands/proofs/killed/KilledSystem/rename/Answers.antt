use Rattle.maildir_commands.proofs.Killing.{takes_none}
use Rattle.maildir_commands.proofs.killed.KilledSystem.rename.Goals as goal

pub returns-in_err-begin-clause-places : goal.returns-in_err-begin-clause-places
returns-in_err-begin-clause-places g c = takes_none c.from_residual.result c.from_residual.ensures.0
