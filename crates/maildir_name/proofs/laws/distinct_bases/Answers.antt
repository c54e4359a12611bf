use Rattle.maildir_name.proofs.DistinctBases.{distinct-targets}
use Rattle.maildir_name.proofs.laws.distinct_bases.Goals as goal

pub returns : goal.returns
returns c = distinct-targets
