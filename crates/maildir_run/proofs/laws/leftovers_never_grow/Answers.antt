use Rattle.maildir_run.proofs.Call.Leftovers.{leftovers}
use Rattle.maildir_run.proofs.laws.leftovers_never_grow.Goals as goal

pub returns : goal.returns
returns c = λ spared action s all. leftovers spared all action s
