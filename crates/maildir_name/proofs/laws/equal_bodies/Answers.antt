use Rattle.maildir_name.proofs.EqualBodies.{bases-equal}
use Rattle.maildir_name.proofs.laws.equal_bodies.Goals as goal

pub returns : goal.returns
returns c = bases-equal
