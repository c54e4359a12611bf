use Rattle.maildir_name.proofs.DistinctBases.{named-targets}
use Rattle.maildir_name.proofs.laws.named_targets.Goals as goal

pub returns : goal.returns
returns c bodies few k d below =
    let n = named-targets bodies few k d below in (n.converter, n.own_base, n.same_base)
