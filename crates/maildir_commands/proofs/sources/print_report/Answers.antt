use Rattle.maildir_commands.proofs.Delivering.{line_handed}
use Rattle.maildir_commands.proofs.sources.print_report.Goals as goal

pub returns-in-Ok-clause-printed : goal.returns-in-Ok-clause-printed
returns-in-Ok-clause-printed g c =
    line_handed _ _ _ _ c.flush.ensures.same (rw (c.as_slice.ensures.value, c.report_line.ensures) at c.in-Ok.ensures.written) _
