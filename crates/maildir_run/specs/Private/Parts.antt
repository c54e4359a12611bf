-- What the parts of a run say of what they did.
use Rattle.std.specs.Prelude.{◌≡◌, ℕ, ◌+◌, ◌*◌, ◌≤◌, ◌⊎◌, List, [], ◌∷◌, ◌++◌}
use Rattle.std.specs.Prelude.{length, Option, None, Result, Ok, Err}
use Rattle.std.specs.declared.vec.Vec.{Vec}
use Rattle.std.specs.declared.string.String.{String}
use Rattle.std.specs.declared.alloc.Global.{Global}
use Rattle.std.specs.FinMap.{contains_key}
use Rattle.maildir_name.specs.Named.{Named}
use Rattle.maildir_name.specs.Targets.{target}
use Rattle.maildir_run.specs.declared.engine.Engine.{Engine}
use Rattle.maildir_run.specs.declared.fault.RunFault.{RunFault}
use Rattle.maildir_run.specs.Calls.{names_of}
use Rattle.maildir_run.specs.Private.Counting.{Makes}
use Rattle.maildir_run.specs.Counting.{GoesUpWith, HasCallNumber}
use Rattle.maildir_run.specs.Cuts.{Follows}
use Rattle.maildir_run.specs.Delivery.{Message}
use Rattle.maildir_run.specs.Files.{Honestly}
use Rattle.maildir_run.specs.Seen.{Seen}
use Rattle.maildir_run.specs.Private.Progress.{message_at}
use Rattle.maildir_run.specs.Tasks.{Task, DoneUntil, call_of, honestly}
use Rattle.maildir_run.specs.Private.Tasks.{jointly, quietly}
use Rattle.maildir_run.specs.Parts.{deliveries_of}
use Rattle.maildir_run.specs.Touched.{FileName, Touches, TouchedOnly}

-- one of these tasks touches this file
abbrev pub OneTouches : List Task → FileName → Type 0
OneTouches [] file = ⊥
OneTouches (task ∷ tasks) file = Touches (call_of task) file ⊎ OneTouches tasks file

-- A run that had made so many calls performed these tasks: all of them with no fault, and with one up to the one that was refused.
pub record Performed (tasks : List Task) (old new : Seen) (made made' : ℕ) (fault : Option RunFault) : Type 0 where
  pub honest : Honestly old.honest new.honest
  pub done_honestly : Honestly old.honest (λ spared. DoneUntil (honestly spared) tasks old.files fault new.files)
  pub left : Honestly old.honest (λ spared.
      Follows (λ before now. DoneUntil (jointly spared) tasks (old.files, before) fault (new.files, now)) old.may_leave new.may_leave)
  pub still_rooted : Honestly old.honest (λ _. old.rooted → new.rooted)
  pub quiet : old.quiet → new.quiet
  pub done_quietly : old.quiet → DoneUntil quietly tasks old.files fault new.files
  pub touches : TouchedOnly (OneTouches tasks) old.touched new.touched
  pub n : ℕ
  pub most : n ≤ length tasks
  pub all : fault ≡ None → n ≡ length tasks
  pub makes : Makes n made made' old.calls new.calls
  pub cause : GoesUpWith fault old.failures new.failures
  pub call_number : HasCallNumber fault made'

-- the names that a listing answered
abbrev pub names_in : {E : Type 0} → Result (Vec (String Global) Global) E → List (List ℕ)
names_in (Ok names) = names_of names
names_in (Err _) = []

-- the messages with these bodies, which follow the bodies `before` in their text
abbrev pub messages_after : List (List ℕ) → List (List ℕ) → List Message
messages_after before [] = []
messages_after before (body ∷ more) = message_at (target before body) body ∷ messages_after (before ++ body ∷ []) more

-- Of the messages with the bodies `more`, which follow the bodies `before`, a run delivered those that were missing; each takes two calls.
pub record DeliversMessages (before more : List (List ℕ)) (old new : Seen) (run run' : Engine) (fault : Option RunFault) : Type 0 where
  pub ran : Performed (deliveries_of (contains_key run.there) (messages_after before more)) old new run.calls.made run'.calls.made fault
  pub there : run'.there ≡ run.there
  pub swept : run'.swept ≡ run.swept
  pub named : fault ≡ None → Named (before ++ more) run'.namer
  pub placed_are : fault ≡ None → 2 * run'.placed ≡ 2 * run.placed + length (deliveries_of (contains_key run.there) (messages_after before more))
