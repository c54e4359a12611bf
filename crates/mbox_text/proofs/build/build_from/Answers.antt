use Rattle.std.proofs.Common.{sym, arith}
use Rattle.mbox_text.proofs.FromLine.BuiltLines.{is-built, not-found}
use Rattle.mbox_text.proofs.Faults.{ok_no_err}
use Rattle.mbox_text.proofs.build.build_from.Goals as goal

pub returns-clause-from_line : goal.returns-clause-from_line
returns-clause-from_line c =
    is-built _ _ _ c.memchr.ensures (sym c.if-is_some.ensures) c.in_ok-join.ensures

pub returns-clause-line_end_in_rest : goal.returns-clause-line_end_in_rest
returns-clause-line_end_in_rest c = grind (arith, ok_no_err, not-found)
