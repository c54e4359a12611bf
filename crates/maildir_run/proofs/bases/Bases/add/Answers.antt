use Rattle.std.proofs.Common.{arith}
use Rattle.maildir_run.proofs.Names.Sets.{set_of-insert}
use Rattle.maildir_run.proofs.bases.Bases.add.Goals as goal

pub returns : goal.returns
returns c = grind (arith, set_of-insert)
