use Rattle.std.proofs.Common.{arith}
use Rattle.maildir_disk.proofs.Calls.Looking.{looks_none}
use Rattle.maildir_memory.proofs.plain_system.PlainSystemSystem.now.Goals as goal

pub returns-clause-reads : goal.returns-clause-reads
returns-clause-reads c = record { looks = looks_none; now = λ spared h. record { no_earlier = omega arith; no_later = omega arith } }
