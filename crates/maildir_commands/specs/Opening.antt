-- What the calls of a machine do that open sources, and that open and close Maildirs.
use Rattle.std.specs.Prelude.{◌≡◌, ℕ, List, Option, Some, Result, IfErr, IfOk, OnErr, OnOk}
use Rattle.maildir_disk.specs.declared.faults.OpenFault.{OpenFault}
use Rattle.maildir_commands.specs.Seen.{OpenMaildir, SeenMachine, Untouched}
use Rattle.maildir_run.specs.Files.{Honestly}

-- Sources were opened, or refused, and nothing else was done.
pub record OpensSources (old new : SeenMachine) : Type 0 where
  pub honest : Honestly old.honest new.honest
  pub quiet : old.quiet → new.quiet
  pub texts : Honestly old.honest (λ _. new.text_of ≡ old.text_of)
  pub refusals : Honestly old.honest (λ _. (path : List ℕ) → new.refuses_source path → old.refuses_source path)
  pub maildirs : Honestly old.honest (λ _. (path : List ℕ) (fault : OpenFault) → new.refuses_maildir path fault → old.refuses_maildir path fault)
  pub still_open : Honestly old.honest (λ _. (path : List ℕ) → old.is_open path → new.is_open path)
  pub untouched : (path : List ℕ) → Untouched old (old.maildir_at path) (new.maildir_at path)

-- A source was opened and has its text, or the call failed; some errors say that the source was refused.
pub record OpensSource {A E : Type 0} (remaining : A → Option (List ℕ)) (says_refused : E → Type 0) (path : List ℕ) (answer : Result A E)
    (old new : SeenMachine) : Type 0 where
  pub opens : OpensSources old new
  pub text : Honestly old.honest (λ _. IfOk answer (λ source. remaining source ≡ Some (old.text_of path)))
  pub refused : Honestly old.honest (λ _. IfErr answer (λ error. says_refused error → old.refuses_source path))

-- A Maildir was opened, or refused, and no other Maildir was touched.
pub record OpensMaildir {A : Type 0} (opened : A → OpenMaildir) (path : List ℕ) (answer : Result A OpenFault) (old new : SeenMachine) : Type 0 where
  pub honest : Honestly old.honest new.honest
  pub quiet : old.quiet → new.quiet
  pub texts : Honestly old.honest (λ _. new.text_of ≡ old.text_of)
  pub refusals : Honestly old.honest (λ _. (other : List ℕ) → new.refuses_source other → old.refuses_source other)
  -- With Ok the Maildir is open, and has what was at the path.
  pub is_open : Honestly old.honest (λ _. OnOk answer (new.is_open path))
  pub works : Honestly old.honest (λ spared. IfOk answer (λ maildir. (opened maildir).honest spared))
  pub works_quietly : old.quiet → IfOk answer (λ maildir. (opened maildir).quiet)
  pub opens : IfOk answer (λ maildir. Untouched old (old.maildir_at path) (opened maildir).held)
  -- Otherwise it may be refused for this fault.
  pub refused : Honestly old.honest (λ _. IfErr answer (old.refuses_maildir path))
  pub untouched : OnErr answer (Untouched old (old.maildir_at path) (new.maildir_at path))
  pub others : (other : List ℕ) → ¬ old.same path other → Untouched old (old.maildir_at other) (new.maildir_at other)

-- A Maildir that was open by this path was closed, and no other Maildir was touched.
pub record ClosesMaildir (path : List ℕ) (maildir : OpenMaildir) (old new : SeenMachine) : Type 0 where
  pub honest : Honestly old.honest (λ spared. maildir.honest spared → new.honest spared)
  pub texts : Honestly old.honest (λ _. new.text_of ≡ old.text_of)
  pub closes : old.is_open path → Untouched old maildir.held (new.maildir_at path)
  pub others : (other : List ℕ) → ¬ old.same path other → Untouched old (old.maildir_at other) (new.maildir_at other)
