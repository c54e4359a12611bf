use Rattle.maildir_disk.proofs.Calls.Looking.{looks_none}
use Rattle.maildir_commands.proofs.killed.KilledSystem.sleep.Goals as goal

pub returns-else-is_ok : goal.returns-else-is_ok
returns-else-is_ok g c = looks_none
