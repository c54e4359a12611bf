use Rattle.std.proofs.Common.{le_of_eq, take_all, arith}
use Rattle.std.proofs.lemmas.Str.Pattern.{split_once_first}
use Rattle.maildir_name.specs.Names.{base}
use Rattle.maildir_name.proofs.name.base_of.Goals as goal

pub returns-in-Some : goal.returns-in-Some
unfolding base
returns-in-Some c = grind (arith, split_once_first)

pub returns-in-None : goal.returns-in-None
unfolding base
returns-in-None c = grind (arith, split_once_first, take_all, le_of_eq)
