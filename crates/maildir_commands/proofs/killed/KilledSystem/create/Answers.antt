use Rattle.maildir_commands.proofs.Killing.{makes_none}
use Rattle.maildir_commands.proofs.killed.KilledSystem.create.Goals as goal

pub returns-in_err-begin-clause-makes : goal.returns-in_err-begin-clause-makes
returns-in_err-begin-clause-makes g c = makes_none c.from_residual.result c.from_residual.ensures.0
