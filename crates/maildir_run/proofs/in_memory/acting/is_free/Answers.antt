use Rattle.std.proofs.Common.{arith}
use Rattle.maildir_run.proofs.Memory.Scripts.{free_name}
use Rattle.maildir_run.proofs.in_memory.acting.is_free.Goals as goal

pub returns-then-is_none : goal.returns-then-is_none
returns-then-is_none c = grind (arith, free_name)
