use Rattle.std.proofs.Common.{arith}
use Rattle.std.proofs.lemmas.Grind.{common_steps}
use Rattle.maildir_commands.proofs.Resting.{opens_none}
use Rattle.maildir_memory.proofs.mem_machine.MemMachineMachine.open_source.Goals as goal

pub returns-then-eq-clause-opens : goal.returns-then-eq-clause-opens
returns-then-eq-clause-opens c = record { opens = opens_none; text = λ spared h. absurd h; refused = λ spared h. tt }

pub returns-then-eq-clause-text : goal.returns-then-eq-clause-text
returns-then-eq-clause-text c = grind (arith, common_steps)

pub returns-then-eq-clause-there : goal.returns-then-eq-clause-there
returns-then-eq-clause-there c = grind (arith, common_steps)

pub returns-clause-opens : goal.returns-clause-opens
returns-clause-opens c = record { opens = opens_none; text = λ spared h. tt; refused = λ spared h. absurd h }

pub returns-clause-missing : goal.returns-clause-missing
returns-clause-missing c = grind (arith, common_steps)
