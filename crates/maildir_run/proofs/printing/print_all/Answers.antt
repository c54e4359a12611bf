use Rattle.std.proofs.Common.{◌++◌, [], refl, inr}
use Rattle.maildir_run.proofs.Common.{Appends-nil, Appends-trans}
use Rattle.maildir_run.proofs.Output.Poured.{reading_failed, writing_failed, all_written}
use Rattle.maildir_run.proofs.Source.Givens.{gave_none, given_prefix, given-from_lines, names_fit, unread}
use Rattle.maildir_run.proofs.printing.print_all.Goals as goal

pub pieces-init : goal.pieces-init
pieces-init g c = record {
  given = [];
  gave = gave_none _ c.in_ok-reader.ensures;
  written = rw c.requires.is_output.none (Appends-nil _);
  printed = c.requires.fresh;
}

pub returns-in_err-reader : goal.returns-in_err-reader
returns-in_err-reader g c =
    let o = c.requires.is_output in
    reading_failed _ [] o (rw o.none (Appends-nil _)) _ c.from_residual.ensures.1 (inr (inr (inr refl))) (unread _)

pub returns-in_err-ended : goal.returns-in_err-ended
returns-in_err-ended g c =
    let i = c.pieces.invariant in
    let ended = c.in_err-ended.ensures in
    reading_failed _ _ c.requires.is_output i.written _ c.from_residual-in_err-ended.ensures.1 ended.causes (ended.refused _ _ _ i.gave)

pub print-requires : goal.print-requires
print-requires g c =
    let i = c.pieces.invariant in
    rw c.deref.ensures.value (given-from_lines c.in_ok-ended.ended _ _ _ _ _ i.given _ (c.in_ok-ended.ensures.gives.gave _ _ _ i.gave))

pub returns-in_err-print : goal.returns-in_err-print
returns-in_err-print g c =
    let i = c.pieces.invariant in
    let prefix = given_prefix c.in_ok-ended.ended _ _ _ _ _ _ (c.in_ok-ended.ensures.gives.gave _ _ _ i.gave) in
    let s = rw c.deref.ensures.value at (c.in_err-print.ensures.prints i.given i.printed (rw c.deref.ensures.value (names_fit prefix c.requires.few))) in
    writing_failed _ _ c.requires.is_output i.written _ c.from_residual-in_err-print.ensures.1 c.in_err-print.ensures.causes _ s.0 _ prefix s.1 s.2

pub returns-then-ended : goal.returns-then-ended
returns-then-ended g c =
    let i = c.pieces.invariant in
    let gave = c.in_ok-ended.ensures.gives.gave _ _ _ i.gave in
    let prefix = given_prefix c.in_ok-ended.ended _ _ _ _ _ _ gave in
    let s = rw c.deref.ensures.value at (c.in_ok-print.ensures.prints i.given i.printed (rw c.deref.ensures.value (names_fit prefix c.requires.few))) in
    all_written (rw c.if-ended.true at gave) (rw s.1 (Appends-trans _ _ _ _ s.0 i.written s.2)) (c.count.ensures _ s.3)

pub pieces-preserved : goal.pieces-preserved
pieces-preserved g c =
    let i = c.pieces.invariant in
    let gave = c.in_ok-ended.ensures.gives.gave _ _ _ i.gave in
    let prefix = given_prefix c.in_ok-ended.ended _ _ _ _ _ _ gave in
    let s = rw c.deref.ensures.value at (c.in_ok-print.ensures.prints i.given i.printed (rw c.deref.ensures.value (names_fit prefix c.requires.few))) in
    record {
      given = i.given ++ c.next_batch.new.whole.items;
      gave = rw c.if-ended.false at gave;
      written = rw s.1 (Appends-trans _ _ _ _ s.0 i.written s.2);
      printed = s.3;
    }
