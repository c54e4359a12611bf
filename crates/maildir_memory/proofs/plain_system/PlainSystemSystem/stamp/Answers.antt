use Rattle.std.proofs.Common.{refl}
use Rattle.maildir_disk.proofs.Calls.Looking.{looks_none}
use Rattle.maildir_disk.proofs.Calls.Passing.{passes_none}
use Rattle.maildir_memory.specs.Plain.{world_of}
use Rattle.maildir_memory.proofs.plain_system.PlainSystemSystem.stamp.Goals as goal

pub returns-clause-reads : goal.returns-clause-reads
returns-clause-reads c = record {
  looks = looks_none;
  passes = λ spared h. passes_none;
  stamp = λ spared h. record { moment = world_of c.args.self.now; before = passes_none; rest = passes_none; is = refl };
}
