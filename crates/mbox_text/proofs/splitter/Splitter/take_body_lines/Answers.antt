use Rattle.mbox_text.proofs.Common.{arith, eqb-true, nil_from_length}
use Rattle.mbox_text.proofs.Splitting.Fields.{lines_taken}
use Rattle.mbox_text.proofs.splitter.Splitter.take_body_lines.Goals as goal

pub returns-in-Some-clause-held : goal.returns-in-Some-clause-held
returns-in-Some-clause-held c = grind (arith, lines_taken, nil_from_length, eqb-true)
