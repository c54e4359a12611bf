use Rattle.std.proofs.Common.{Err, subst}
use Rattle.maildir_run.specs.Tasks.{Stopped, honestly}
use Rattle.maildir_run.proofs.Chains.MessageLemmas.{text_distinct, text_targets}
use Rattle.maildir_run.proofs.Run.Owed.{keeps}
use Rattle.maildir_run.proofs.Tasks.PlanLemmas.{planned_are}
use Rattle.maildir_disk.proofs.cuts.killed_runs.Goals as goal

pub returns-clause-owes : goal.returns-clause-owes
returns-clause-owes c = λ spared t old new fault small killed. record {
  keeps = λ ms of sound.
      let (names, calls, left) = killed ms of in
      keeps spared names ms (text_distinct t ms of small) (text_targets t ms of small) old.files new.files (Err fault)
      (subst (λ ts. Stopped (honestly spared) ts old.files new.files) (planned_are names ms) calls) tt sound;
  is_read = tt;
}

pub returns-clause-left : goal.returns-clause-left
returns-clause-left c = λ spared t old new fault ms killed of. (killed ms of).2
