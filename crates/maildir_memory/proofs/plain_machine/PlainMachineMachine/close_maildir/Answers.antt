use Rattle.std.proofs.Common.{refl}
use Rattle.maildir_commands.proofs.Resting.{untouched_same}
use Rattle.maildir_memory.proofs.plain_machine.PlainMachineMachine.close_maildir.Goals as goal

pub returns-clause-closes : goal.returns-clause-closes
returns-clause-closes c = record {
  honest = λ spared h working. working;
  texts = λ spared h. refl;
  closes = λ is. untouched_same;
  others = λ other apart. absurd (apart tt);
}
