use Rattle.maildir_commands.proofs.Killing.{stamps_none}
use Rattle.maildir_commands.proofs.killed.KilledSystem.stamp.Goals as goal

pub returns-in_err-begin : goal.returns-in_err-begin
returns-in_err-begin g c = stamps_none c.from_residual.result c.from_residual.ensures.0
