use Rattle.std.proofs.Common.{sym, ◌∙◌}
use Rattle.mbox_text.proofs.Written.Quotable.{plain_none, plain_prefix, plain_line, finds_none, finds_some}
use Rattle.mbox_text.proofs.quoting.find_quotable.Goals as goal

pub loop-n-init : goal.loop-n-init
loop-n-init c = plain_none

pub returns-then-is_quotable : goal.returns-then-is_quotable
returns-then-is_quotable c =
    let w = c.whole_len.ensures in
    finds_some
    (plain_prefix c.loop-n.invariant (rw c.new-finder.ensures at c.in-Some.ensures) w.within w.ended)
    (sym c.is_quotable.ensures ∙ c.if-is_quotable.true)

pub loop-n-preserved : goal.loop-n-preserved
loop-n-preserved c =
    let w = c.whole_len.ensures in
    plain_line
    (plain_prefix c.loop-n.invariant (rw c.new-finder.ensures at c.in-Some.ensures) w.within w.ended)
    c.line_len.ensures (sym c.is_quotable.ensures ∙ c.if-is_quotable.false)

pub returns : goal.returns
returns c = finds_none c.loop-n.invariant (rw c.new-finder.ensures at c.in_default.ensures)
