use Rattle.mbox_text.proofs.TextLines.LineEnds.{line_ends, line_alone}
use Rattle.mbox_text.proofs.lines.line_len.Goals as goal

pub returns-in-Some : goal.returns-in-Some
returns-in-Some c = line_ends c.in-Some.ensures

pub returns-in-None : goal.returns-in-None
returns-in-None c = line_alone _ c.requires c.in-None.ensures
