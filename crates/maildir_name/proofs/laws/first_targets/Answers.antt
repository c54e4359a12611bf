use Rattle.maildir_name.proofs.TargetLemmas.{targets-prefix}
use Rattle.maildir_name.proofs.laws.first_targets.Goals as goal

pub returns : goal.returns
returns c = targets-prefix
