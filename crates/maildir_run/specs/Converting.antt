-- What a run did.
use Rattle.std.specs.Prelude.{◌≡◌, ℕ, ◌*◌, ◌^◌, ◌<◌, ◌⊎◌, List, length, Option, Result, IfOk, OnOk, IfErr, IsErrOf}
use Rattle.std.specs.Io.KnownBytes.{IsAtEnd}
use Rattle.mbox_text.specs.declared.entry.Entry.{Entry}
use Rattle.mbox_text.specs.Mbox.{Mbox}
use Rattle.maildir_run.specs.declared.fault.RunFault.{RunFault}
use Rattle.maildir_run.specs.declared.fault.RunFault.TheVariants.{NoFromLine, TooManyReads}
use Rattle.maildir_run.specs.declared.report.Report.{Report}
use Rattle.maildir_run.specs.Alone.{alone as alone_after}
use Rattle.maildir_run.specs.Counting.{CountsFault, IsOfFolder, CallNumber}
use Rattle.maildir_run.specs.Cuts.{Follows}
use Rattle.maildir_run.specs.Delivery.{Message, AllSpared, Delivered, IsMissing, leftover_count}
use Rattle.maildir_run.specs.Files.{Honestly, Files}
use Rattle.maildir_run.specs.Foreign.{KeepsForeign}
use Rattle.maildir_run.specs.Reading.{IsReading, ReadsAtLeast, ReadsAtMost}
use Rattle.maildir_run.specs.Runs.{CountsRun, Link, Possible, IsRun, Runs}
use Rattle.maildir_run.specs.Seen.{Seen}
use Rattle.maildir_run.specs.Tasks.{Listings, Performs, honestly, leaving, planned_tasks}
use Rattle.maildir_run.specs.Texts.{MessagesOf}
use Rattle.maildir_run.specs.Touched.{TouchedConverters}

-- A run delivered the messages of its source, of which it may make so many reads, into a folder.
pub record Converts (before after : Option (List ℕ)) (reads : ℕ) (old new : Seen) (result : Result Report RunFault) : Type 0 where
  -- if the folder is honest
  pub honest : Honestly old.honest new.honest
  pub as_planned : Honestly old.honest (λ spared. (t : List ℕ) (ms : List Message) → Possible before after t → MessagesOf t ms
      → (names : Listings) × Performs (honestly spared) (planned_tasks names ms) old.files result new.files)
  pub left : Honestly old.honest (λ spared. (t : List ℕ) (ms : List Message) → Possible before after t → MessagesOf t ms
      → Follows (λ was is. (names : Listings) × Performs (leaving spared) (planned_tasks names ms) was result is) old.may_leave new.may_leave)
  pub still_rooted : Honestly old.honest (λ _. old.rooted → new.rooted)
  pub owes : Honestly old.honest (λ spared. (t : List ℕ) → length t < 2 ^ 63 → Possible before after t → IsRun spared t old.files result new.files)
  pub restartable : Honestly old.honest (λ spared. (t : List ℕ) (ms : List Message) (links : List Link) (start : Files) → length t < 2 ^ 63
      → Possible before after t → MessagesOf t ms → AllSpared spared (IsMissing start) ms → Runs spared t links start old.files
      → OnOk result (Delivered spared ms new.files))
  -- if the folder is quiet
  pub quiet : old.quiet → new.quiet
  pub alone : old.quiet → (t : List ℕ) (ms : List Message) → Possible before after t → MessagesOf t ms
      → IfOk result (λ report. (new.files ≡ alone_after ms old.files) × (report.swept ≡ leftover_count old.files))
  pub others : old.quiet → KeepsForeign old.files new.files
  -- whatever the folder and others do
  pub touches : TouchedConverters old.touched new.touched
  -- what it counts
  pub calls : IfOk result (λ report. CountsRun report old.calls new.calls)
  pub cause : CountsFault result old.failures new.failures
  pub call_number : CallNumber result old.calls new.calls
  -- what it read, and why it ended with a fault
  pub end : OnOk result (IsAtEnd after)
  pub budget : ReadsAtMost before after (65536 * reads)
  pub untouched : IsErrOf result NoFromLine → new.calls ≡ old.calls
  pub no_from_line : IsErrOf result NoFromLine → (t : List ℕ) (entries : List Entry) → Possible before after t → ¬ Mbox t entries
  pub spent : IsErrOf result TooManyReads → ReadsAtLeast before after reads
  pub causes : IfErr result (λ fault. IsReading fault ⊎ IsOfFolder fault)
