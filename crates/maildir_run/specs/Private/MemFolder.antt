-- How a call of the folder in memory begins.
use Rattle.std.specs.Prelude.{◌≡◌, IfOk, OnOk, OnErr, Result}
use Rattle.std.specs.declared.alloc.AllocError.{AllocError}
use Rattle.maildir_run.specs.declared.in_memory.mem_folder.MemFolder.{MemFolder}
use Rattle.maildir_run.specs.declared.in_memory.script.Mode.{Mode}
use Rattle.maildir_run.specs.Calls.{GoesUp}
use Rattle.maildir_run.specs.MemFolder.{files_of, all_call_count, failure_count, next_mode, next_acts, next_files, SameScript, CountsCall}
use Rattle.maildir_run.specs.Script.{IsCutShort}

-- A call was counted and the acts before it were made, or one of them found no memory. It answers in this mode.
pub record BeginsCall (old : MemFolder) (result : Result Mode AllocError) (new : MemFolder) : Type 0 where
  pub mode : IfOk result (λ mode. mode ≡ next_mode old)
  pub ok : OnOk result (files_of new ≡ next_files old)
  pub err : OnErr result (IsCutShort (next_acts old) (files_of old) (files_of new))
  pub script : SameScript old new
  pub told : CountsCall old new
  pub counted : GoesUp (all_call_count old) (all_call_count new)
  pub failures : failure_count new ≡ failure_count old
