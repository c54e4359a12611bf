use Rattle.maildir_run.proofs.Call.Outsiders.{fewer_spared, outside_leaves, outside_reaches}
use Rattle.maildir_run.proofs.Memory.Scripts.{without_leaves}
use Rattle.maildir_run.proofs.laws.outside_actions.Goals as goal

pub returns-clause-leaves : goal.returns-clause-leaves
returns-clause-leaves c = outside_leaves

pub returns-clause-reaches : goal.returns-clause-reaches
returns-clause-reaches c = outside_reaches

pub returns-clause-deletes : goal.returns-clause-deletes
returns-clause-deletes c = λ spared folder name s apart. outside_reaches spared s _ (without_leaves spared folder name s apart)

pub returns-clause-fewer : goal.returns-clause-fewer
returns-clause-fewer c = λ more fewer action s within. fewer_spared more fewer within action s
