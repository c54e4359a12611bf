use Rattle.std.proofs.Common.{sym, ◌∙◌}
use Rattle.maildir_memory.proofs.Plain.{takes, takes_none}
use Rattle.maildir_memory.proofs.plain_machine.PlainMachineMachine.open_maildir.Goals as goal

pub returns-in-Some-clause-opens : goal.returns-in-Some-clause-opens
returns-in-Some-clause-opens c =
    let old = c.args.self.now in
    takes old.text.now c.args._path.now old.maildir c.take.new.self c.take.ensures.after c.in-Some.maildir (sym c.take.ensures.value ∙ c.in-Some.is)

pub returns-in-None-clause-opens : goal.returns-in-None-clause-opens
returns-in-None-clause-opens c =
    let old = c.args.self.now in
    takes_none old.text.now c.args._path.now old.maildir c.take.new.self c.take.ensures.after (sym c.take.ensures.value ∙ c.in-None.is)
