-- The calls that a part of a run makes, and the fault that it answers for one.
use Rattle.std.specs.Prelude.{◌≡◌, ℕ, ◌+◌, Result, Ok, Err}
use Rattle.maildir_run.specs.declared.folder.FolderFault.{FolderFault}
use Rattle.maildir_run.specs.declared.folder.FolderFault.TheVariants.{Absent, Failed}
use Rattle.maildir_run.specs.declared.folder.FolderFault.TheVariants as folder
use Rattle.maildir_run.specs.declared.fault.RunFault.{RunFault}
use Rattle.maildir_run.specs.declared.fault.RunFault.TheVariants.{FolderAbsent, FolderFailed, OutOfMemory}
use Rattle.maildir_run.specs.Counting.{capped, raised}

-- the fault of a folder call, as the run gives it; this is the number of the call
abbrev pub run_fault : ℕ → FolderFault → RunFault
run_fault number Absent = FolderAbsent
run_fault number Failed = FolderFailed number
run_fault number folder.OutOfMemory = OutOfMemory

-- the answer of a folder call, as the run gives it
abbrev pub run_answer : {A : Type 0} → ℕ → Result A FolderFault → Result A RunFault
run_answer number (Ok value) = Ok value
run_answer number (Err fault) = Err (run_fault number fault)

-- this many calls were made: the folder counts them, and so does the run
pub record Makes (n made made' calls calls' : ℕ) : Type 0 where
  pub count_is : calls' ≡ raised n calls
  pub made_is : (k : ℕ) → made ≡ capped k → made' ≡ capped (k + n)
