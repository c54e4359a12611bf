use Rattle.maildir_commands.proofs.Fitting.{fit}
use Rattle.maildir_commands.proofs.laws.texts_fit.Goals as goal

pub returns : goal.returns
returns c = fit
