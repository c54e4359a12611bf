-- Which fault a command returns for what failed, and the line that reports it.
use Rattle.std.specs.Prelude.{ℕ, List, ◌++◌, codes}
use Rattle.std.specs.Fmt.{decimal}
use Rattle.maildir_run.specs.declared.folder.FolderFault.{FolderFault}
use Rattle.maildir_run.specs.declared.folder.FolderFault.TheVariants.{Absent, Failed, OutOfMemory}
use Rattle.maildir_run.specs.declared.fault.RunFault.TheVariants as run
use Rattle.maildir_disk.specs.declared.faults.OpenFault.{OpenFault}
use Rattle.maildir_disk.specs.declared.faults.OpenFault.TheVariants as opening
use Rattle.maildir_commands.specs.declared.fault.Fault.{Fault}
use Rattle.maildir_commands.specs.declared.fault.Fault.TheVariants as fault
use Rattle.maildir_commands.specs.declared.fault.Fault.TheVariants.{Run}

-- the fault of an allocation that failed, and `other` for what failed otherwise
abbrev pub fault_or : FolderFault → Fault → Fault
fault_or OutOfMemory other = Run run.OutOfMemory
fault_or Absent other = other
fault_or Failed other = other

-- the fault of a locked Maildir, and of one that could not be opened
abbrev pub fault_of_opening : OpenFault → Fault
fault_of_opening opening.Locked = fault.Locked
fault_of_opening (opening.Folder reason) = fault_or reason fault.Folder

-- the text of each fault (this project's own rule)
abbrev pub fault_text : Fault → List ℕ
fault_text fault.Source = codes "cannot open the source"
fault_text fault.Folder = codes "cannot open the folder"
fault_text fault.Locked = codes "another converter is at work in the folder"
fault_text (Run run.NoFromLine) = codes "no From line at the start"
fault_text (Run run.ReadFault) = codes "the source could not be read"
fault_text (Run run.TooManyReads) = codes "too many reads"
fault_text (Run run.FolderAbsent) = codes "a file in tmp is gone"
fault_text (Run (run.FolderFailed number)) = codes "folder call " ++ decimal number ++ codes " failed"
fault_text (Run run.OutputFault) = codes "the output could not be written"
fault_text (Run run.OutOfMemory) = codes "out of memory"

-- the line that reports a text
abbrev pub told : List ℕ → List ℕ
told text = codes "mbox2maildir: " ++ text ++ codes "\n"
