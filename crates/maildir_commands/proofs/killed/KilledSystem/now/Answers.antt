use Rattle.maildir_commands.proofs.Killing.{clocks_none}
use Rattle.maildir_commands.proofs.killed.KilledSystem.now.Goals as goal

pub returns-in_err-begin : goal.returns-in_err-begin
returns-in_err-begin g c = clocks_none c.from_residual.result c.from_residual.ensures.0
