use Rattle.std.proofs.Common.{arith}
use Rattle.maildir_run.proofs.Names.Sets.{contains_key-listed}
use Rattle.maildir_run.proofs.bases.Bases.of_listings.Goals as goal

pub returns : goal.returns
returns c = grind (arith, contains_key-listed)
