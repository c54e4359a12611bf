use Rattle.maildir_name.proofs.TargetLemmas.{length-targets, targets-push}
use Rattle.maildir_name.proofs.laws.one_more_target.Goals as goal

pub returns : goal.returns
returns c = record { as_many = length-targets; added = targets-push }
