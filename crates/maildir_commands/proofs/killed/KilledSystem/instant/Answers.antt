use Rattle.maildir_disk.proofs.Calls.Looking.{looks_none}
use Rattle.maildir_commands.proofs.killed.KilledSystem.instant.Goals as goal

pub returns-in_err-begin : goal.returns-in_err-begin
returns-in_err-begin g c = looks_none
