use Rattle.maildir_commands.proofs.Killing.{reads_none}
use Rattle.maildir_commands.proofs.killed.KilledSystem.names.Goals as goal

pub returns-in_err-begin : goal.returns-in_err-begin
returns-in_err-begin g c = reads_none c.from_residual.result c.from_residual.ensures.0
