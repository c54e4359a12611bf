use Rattle.std.proofs.Common.{arith}
use Rattle.maildir_run.proofs.Names.Sets.{contains_key-set_of}
use Rattle.maildir_run.proofs.bases.Bases.contains.Goals as goal

pub returns : goal.returns
returns c = grind (arith, contains_key-set_of)
