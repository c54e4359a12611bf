use Rattle.mbox_text.proofs.Common.{arith, ◌∙◌, take-append-drop, take_rest, length-drop}
use Rattle.mbox_text.proofs.Splitting.Fields.{take-at}
use Rattle.mbox_text.proofs.Splitting.Giving.{gives_nothing, gives_then, stops_after, handed_on}
use Rattle.mbox_text.proofs.splitter.Splitter.take_piece.Goals as goal

pub loop-at-init : goal.loop-at-init
loop-at-init c = grind (arith, gives_nothing)

pub loop-at-preserved : goal.loop-at-preserved
loop-at-preserved c =
    let piece = c.args.piece.now in
    let at = c.loop-at.at in
    let e = c.in_ok-at.ensures in
    let w = rw (take_rest piece at) at e.within in
    record {
      within = omega (arith, length-drop at piece, w, c.loop-at.invariant.within);
      same = e.same ∙ c.loop-at.invariant.same;
      gives =
          rw (take-at piece at c.in_ok-at.field-0) (gives_then c.args.self.now c.loop-at.self c.advance.new.self _ _ _ c.loop-at.invariant.gives e.moved);
    }

pub returns-in_err-at-clause-stopped : goal.returns-in_err-at-clause-stopped
returns-in_err-at-clause-stopped c =
    grind (arith, handed_on, stops_after, take_rest c.args.piece.now c.loop-at.at, take-append-drop c.loop-at.at c.args.piece.now)
