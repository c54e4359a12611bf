use Rattle.maildir_run.proofs.Tasks.Tasks.{ran_do}
use Rattle.maildir_run.proofs.calls.Calls.remove.Goals as goal

pub returns-clause-ran : goal.returns-clause-ran
returns-clause-ran g c = ran_do _ _ c.answer.ensures.made c.answer.ensures.is c.remove-answer.ensures.removes
