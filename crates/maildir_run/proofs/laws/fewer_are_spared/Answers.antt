use Rattle.maildir_run.proofs.Call.Fewer.{fewer_acted, fewer_leaves, fewer_run}
use Rattle.maildir_run.proofs.laws.fewer_are_spared.Goals as goal

pub returns-clause-acted : goal.returns-clause-acted
returns-clause-acted c = λ fewer more actions s within. fewer_acted within actions s

pub returns-clause-left : goal.returns-clause-left
returns-clause-left c = λ fewer more call before now within h. fewer_leaves within h

pub returns-clause-run : goal.returns-clause-run
returns-clause-run c = λ fewer more t answer old new within sound run. fewer_run within t old new answer sound run
