use Rattle.maildir_disk.proofs.Calls.Looking.{looks_none}
use Rattle.maildir_memory.proofs.plain_system.PlainSystemSystem.instant.Goals as goal

pub returns-clause-looks : goal.returns-clause-looks
returns-clause-looks c = looks_none
