use Rattle.std.proofs.Common.{◌≡◌, Err, [], arith, ap, refl, append-nil}
use Rattle.std.proofs.lemmas.Bool.Decides.{nat_tests}
use Rattle.maildir_run.proofs.Common.{nil_from_length}
use Rattle.maildir_run.proofs.Source.Givens.{gave_piece, gave_end, stopped, stopped_end, stopped_piece}
use Rattle.maildir_run.proofs.Tasks.Faults.{if_err}
use Rattle.maildir_run.proofs.reader.Reader.next_batch.Goals as goal

pub returns-in_err-n-clause-refused : goal.returns-in_err-n-clause-refused
returns-in_err-n-clause-refused g c =
    let refused = c.in_err-n.ensures.refused in
    if_err _ _ c.from_residual.ensures.1 (λ before reads given is.
    stopped _ (c.pieces.invariant.gave before reads given is) [] refused.0 (omega arith) (λ e. grind arith) (λ e. absurd (grind arith)))

pub returns-in_err-finish-clause-refused : goal.returns-in_err-finish-clause-refused
returns-in_err-finish-clause-refused g c =
    let took = rw c.if-n-eq0.true at c.in_ok-n.ensures.took in
    let failed = c.in_err-finish.ensures in
    if_err _ _ c.from_residual-in_err-finish.ensures.1 (λ before reads given is.
    stopped_end _ (c.pieces.invariant.gave before reads given is) took.1 (took.2 refl) failed.causes
    (λ e. rw c.replace-splitter.ensures.value at (failed.no_from_line (ap Err e))))

pub returns-in_err-feed-clause-refused : goal.returns-in_err-feed-clause-refused
returns-in_err-feed-clause-refused g c =
    let ok = c.in_ok-n.ensures in
    let failed = c.in_err-feed.ensures in
    if_err _ _ c.from_residual-in_err-feed.ensures.1 (λ before reads given is.
    stopped_piece _ (c.pieces.invariant.gave before reads given is) _ ok.took.0
    (omega (arith, ok.took.0, ok.spent, c.pieces.self.roomy, c.read_piece.new.buffer.ok.0)) ok.took.1 failed.causes
    (λ e. rw c.deref.ensures.value at (failed.no_from_line (ap Err e))))

pub returns-then-n-eq0-clause-gives : goal.returns-then-n-eq0-clause-gives
returns-then-n-eq0-clause-gives g c =
    let took = rw c.if-n-eq0.true at c.in_ok-n.ensures.took in
    let last = rw c.replace-splitter.ensures.value at c.in_ok-finish.ensures.last in
    record {
      gave = λ before reads given is. gave_end _ (c.pieces.invariant.gave before reads given is) took.1 (took.2 refl) c.pieces.invariant.empty last;
      some = λ e. absurd (cc);
      fewer = λ e. absurd (cc);
    }

pub returns-then-not-is_empty-clause-gives : goal.returns-then-not-is_empty-clause-gives
returns-then-not-is_empty-clause-gives g c =
    let i = c.pieces.invariant in
    let ok = c.in_ok-n.ensures in
    record {
      gave = λ before reads given is. gave_piece _ (i.gave before reads given is) _ ok.took.0
          (omega (arith, ok.took.0, c.pieces.self.roomy, c.read_piece.new.buffer.ok.0)) (omega (arith, c.if-n-eq0.false)) ok.took.1 ok.spent i.empty
          (rw c.deref.ensures.value at c.in_ok-feed.ensures.fed);
      some = λ e. grind (arith, nat_tests);
      fewer = λ e. omega (arith, i.fewer, ok.spent);
    }

pub pieces-preserved : goal.pieces-preserved
pieces-preserved g c =
    let i = c.pieces.invariant in
    let ok = c.in_ok-n.ensures in
    let none : c.feed.new.out.items ≡ [] = nil_from_length _ (grind (arith, nat_tests)) in
    record {
      gave = λ before reads given is. rw (none, append-nil) at (gave_piece _ (i.gave before reads given is) _ ok.took.0
          (omega (arith, ok.took.0, c.pieces.self.roomy, c.read_piece.new.buffer.ok.0)) (omega (arith, c.if-n-eq0.false)) ok.took.1 ok.spent i.empty
          (rw c.deref.ensures.value at c.in_ok-feed.ensures.fed));
      empty = none;
      fewer = omega (arith, i.fewer, ok.spent);
    }
