use Rattle.maildir_commands.proofs.Killing.{asks_none}
use Rattle.maildir_commands.proofs.killed.KilledSystem.sync_root.Goals as goal

pub returns-in_err-begin-clause-asks : goal.returns-in_err-begin-clause-asks
returns-in_err-begin-clause-asks g c = asks_none c.from_residual.result c.from_residual.ensures.0
