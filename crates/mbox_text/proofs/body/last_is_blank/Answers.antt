use Rattle.mbox_text.proofs.Common.{arith, Decides-eqb, slice_eq-Decides}
use Rattle.mbox_text.proofs.Reading.Chopped.{only_blank, last_blank}
use Rattle.mbox_text.proofs.body.last_is_blank.Goals as goal

pub returns-then-eq : goal.returns-then-eq
returns-then-eq c = grind (arith, only_blank, slice_eq-Decides, Decides-eqb)

pub returns-else-eq : goal.returns-else-eq
returns-else-eq c = grind (arith, last_blank, slice_eq-Decides, Decides-eqb)
