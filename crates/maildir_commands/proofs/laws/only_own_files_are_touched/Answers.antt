use Rattle.maildir_commands.proofs.Touching.{only_own}
use Rattle.maildir_commands.proofs.laws.only_own_files_are_touched.Goals as goal

pub returns : goal.returns
returns g c = only_own g.M.Machine.at
