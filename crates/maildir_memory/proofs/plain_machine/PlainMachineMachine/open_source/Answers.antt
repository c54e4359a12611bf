use Rattle.std.proofs.Common.{refl}
use Rattle.maildir_commands.proofs.Resting.{opens_none}
use Rattle.maildir_memory.proofs.plain_machine.PlainMachineMachine.open_source.Goals as goal

pub returns-clause-opens : goal.returns-clause-opens
returns-clause-opens c = record { opens = opens_none; text = λ spared h. refl; refused = λ spared h. tt }
