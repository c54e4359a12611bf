use Rattle.mbox_text.proofs.TextLines.LineEnds.{none-there, NoEnd-after}
use Rattle.mbox_text.proofs.lines.whole_len.Goals as goal

pub returns-in-Some-clause-rest : goal.returns-in-Some-clause-rest
returns-in-Some-clause-rest c = NoEnd-after c.args.text.now c.in-Some.n c.in-Some.ensures

pub returns-in-None-clause-rest : goal.returns-in-None-clause-rest
returns-in-None-clause-rest c = none-there _ c.in-None.ensures
