use Rattle.maildir_run.proofs.Tasks.AloneLemmas.{alone-delivered, three_calls}
use Rattle.maildir_run.proofs.laws.nothing_left_to_do.Goals as goal

pub returns-clause-same : goal.returns-clause-same
returns-clause-same c = λ ms s delivered. alone-delivered delivered

pub returns-clause-three_calls : goal.returns-clause-three_calls
returns-clause-three_calls c = λ t ms s new report are d run before after made. three_calls t ms s new report are d run before after made
