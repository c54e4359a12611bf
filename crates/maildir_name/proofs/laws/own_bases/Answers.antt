use Rattle.maildir_name.proofs.NameLemmas.{base-converter}
use Rattle.maildir_name.proofs.laws.own_bases.Goals as goal

pub returns : goal.returns
returns c = base-converter
