use Rattle.std.proofs.Common.{◌≡◌, false, sym, ap, ◌∙◌, refl, rules}
use Rattle.maildir_run.proofs.Common.{contains_key}
use Rattle.maildir_run.proofs.Tasks.Faults.{is_fault}
use Rattle.maildir_run.proofs.Tasks.Tasks.{ran_before, ran_err, ran_then}
use Rattle.maildir_run.proofs.Run.Delivering.{delivers_refused, delivers_one, delivers_nothing}
use Rattle.maildir_run.proofs.engine.Engine.deliver.Goals.{then-not-contains+in_ok-write+in_ok-place, else-not-contains}
use Rattle.maildir_run.proofs.engine.Engine.deliver.Goals as goal

pub returns-in_err-target-clause-delivers : goal.returns-in_err-target-clause-delivers
returns-in_err-target-clause-delivers g c = search (rules, delivers_refused)

pub returns-in_err-write-clause-delivers : goal.returns-in_err-write-clause-delivers
returns-in_err-write-clause-delivers g c = λ bodies named few.
    let t = c.in_ok-target.target in
    let run = c.args.self.now in
    let told = c.in_ok-target.ensures.next bodies named few in
    let off : contains_key run.there t.base ≡ false =
    ap (contains_key run.there) (sym c.as_str-base.ensures) ∙ sym c.contains.ensures ∙ c.if-not-contains.true in
    delivers_one bodies c.args.body.now t told.0 run _ off refl refl
    (ran_err _ c.from_residual-in_err-write.ensures.1 (ran_before _ (rw c.as_str-base.ensures at c.in_err-write.ensures.ran))) told.1
    (λ e. absurd (is_fault _ c.from_residual-in_err-write.ensures.0 e))

pub returns-in_err-place-clause-delivers : goal.returns-in_err-place-clause-delivers
returns-in_err-place-clause-delivers g c = λ bodies named few.
    let t = c.in_ok-target.target in
    let run = c.args.self.now in
    let told = c.in_ok-target.ensures.next bodies named few in
    let off : contains_key run.there t.base ≡ false =
    ap (contains_key run.there) (sym c.as_str-base.ensures) ∙ sym c.contains.ensures ∙ c.if-not-contains.true in
    delivers_one bodies c.args.body.now t told.0 run _ off refl refl
    (ran_err _ c.from_residual-in_err-place.ensures.1
    (ran_then (rw c.as_str-base.ensures at c.in_ok-write.ensures.ran) (rw (c.as_str-base.ensures, c.as_str.ensures) at c.in_err-place.ensures.ran)))
    told.1 (λ e. absurd (is_fault _ c.from_residual-in_err-place.ensures.0 e))

pub returns-clause-delivers : goal.returns-clause-delivers
returns-clause-delivers g c = λ bodies named few.
    let t = c.in_ok-target.target in
    let run = c.args.self.now in
    let told = c.in_ok-target.ensures.next bodies named few in
    let test : contains_key run.there t.base ≡ c.contains.result = ap (contains_key run.there) (sym c.as_str-base.ensures) ∙ sym c.contains.ensures in
    elim c.if-not-contains.branch [
      | then-not-contains+in_ok-write+in_ok-place w ↦
          rw (w.self-is, w.folder-is)
          (delivers_one bodies c.args.body.now t told.0 run _ (test ∙ w.if-not-contains.true) refl refl
          (ran_then (rw c.as_str-base.ensures at w.in_ok-write.ensures.ran) (rw (c.as_str-base.ensures, w.as_str.ensures) at w.in_ok-place.ensures.ran))
          told.1 (λ e. refl))
      | else-not-contains w ↦
          rw (w.self-is, w.folder-is)
          (delivers_nothing bodies c.args.body.now t told.0 _ run _ (test ∙ w.if-not-contains.false) refl refl refl refl told.1)
    ]
