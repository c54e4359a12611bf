use Rattle.maildir_run.proofs.Tasks.Tasks.{ran_ask}
use Rattle.maildir_run.proofs.calls.Calls.list.Goals as goal

pub returns-clause-ran : goal.returns-clause-ran
returns-clause-ran g c = ran_ask _ c.answer.ensures.made c.answer.ensures.is c.list-answer.ensures.lists
