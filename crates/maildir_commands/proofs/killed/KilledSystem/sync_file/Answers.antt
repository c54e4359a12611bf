use Rattle.maildir_disk.proofs.Calls.Looking.{looks_none}
use Rattle.maildir_commands.proofs.killed.KilledSystem.sync_file.Goals as goal

pub returns-in_err-begin-clause-looks : goal.returns-in_err-begin-clause-looks
returns-in_err-begin-clause-looks g c = looks_none
