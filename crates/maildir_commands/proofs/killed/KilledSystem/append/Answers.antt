use Rattle.maildir_commands.proofs.Killing.{appends_none}
use Rattle.maildir_commands.proofs.killed.KilledSystem.append.Goals as goal

pub returns-in_err-begin-clause-appends : goal.returns-in_err-begin-clause-appends
returns-in_err-begin-clause-appends g c = appends_none c.from_residual.result c.from_residual.ensures.0
