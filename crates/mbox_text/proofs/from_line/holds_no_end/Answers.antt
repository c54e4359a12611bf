use Rattle.mbox_text.proofs.TextLines.LineEnds.{no_end_found}
use Rattle.mbox_text.proofs.from_line.holds_no_end.Goals as goal

pub returns : goal.returns
returns c = no_end_found _ _ _ c.memchr.ensures c.is_none.ensures
