use Rattle.std.proofs.Common.{append-nil, ◌≡◌, List, [], ◌∷◌, ◌++◌, true, false, sym, ap, ◌∙◌, get_or, append_assoc, arith}
use Rattle.maildir_run.proofs.Common.{contains_key, Step, Write, Place}
use Rattle.maildir_run.proofs.Tasks.PlanLemmas.{deliveries-step}
use Rattle.maildir_run.proofs.planner.add_deliveries.Goals.{then-not-contains+in_ok-push+in_ok-push-2, else-not-contains}
use Rattle.maildir_run.proofs.planner.add_deliveries.Goals as goal

pub loop-i-preserved : goal.loop-i-preserved
loop-i-preserved c =
    let there = c.args.there.now in
    let i = c.loop-i.i in
    let d = c.index-targets-i.result in
    let old = c.loop-i.steps.items in
    let shown : contains_key there (get_or c.args.targets.now i d).base ≡ c.contains.result = grind arith in
    elim c.if-not-contains.branch [
      | then-not-contains+in_ok-push+in_ok-push-2 w ↦
          deliveries-step (contains_key there) c.args.targets.now i d c.args.steps.now.items old c.if-not-contains.steps.items false
          c.loop-i-test.true (shown ∙ w.if-not-contains.true) c.loop-i.invariant
          (ap (λ v. v.items) w.steps-is ∙ w.in_ok-push-2.ensures.items
          ∙ ap (λ (xs : List Step). xs ++ Place i ∷ []) w.in_ok-push.ensures.items ∙ append_assoc old (Write i ∷ []) (Place i ∷ []))
      | else-not-contains w ↦
          deliveries-step (contains_key there) c.args.targets.now i d c.args.steps.now.items old c.if-not-contains.steps.items true
          c.loop-i-test.true (shown ∙ w.if-not-contains.false) c.loop-i.invariant
          (ap (λ v. v.items) w.steps-is ∙ sym (append-nil old))
    ]
