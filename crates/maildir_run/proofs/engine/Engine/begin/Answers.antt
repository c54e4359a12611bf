use Rattle.std.proofs.Common.{refl, inr}
use Rattle.maildir_run.proofs.Tasks.Faults.{unless_ok}
use Rattle.maildir_run.proofs.Tasks.Tasks.{ran_err, ran_stop}
use Rattle.maildir_run.proofs.engine.Engine.begin.Goals as goal

pub returns-in_err-there-clause-ran : goal.returns-in_err-there-clause-ran
returns-in_err-there-clause-ran g c =
    let r = c.from_residual-in_err-there in (
      c.sweep.new.calls.made,
      ran_err _ r.ensures.1 (ran_stop (inr (inr (inr refl))) (rw c.deref.ensures.value at c.in_ok-swept.ensures.ran)),
      unless_ok _ r.result r.ensures.0,
    )

pub returns-clause-ran : goal.returns-clause-ran
returns-clause-ran g c = (c.sweep.new.calls.made, rw c.deref.ensures.value at c.in_ok-swept.ensures.ran, refl)
