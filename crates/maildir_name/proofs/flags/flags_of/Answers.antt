use Rattle.std.proofs.Common.{arith}
use Rattle.maildir_name.specs.Flags.{flags}
use Rattle.maildir_name.proofs.flags.flags_of.Goals as goal

pub returns : goal.returns
unfolding flags
returns c = grind arith
