-- Why the delivery of files ended with a fault.
use Rattle.std.specs.Prelude.{ℕ, List, Contains}
use Rattle.mbox_text.specs.Mbox.{IsUnreadable}
use Rattle.maildir_run.specs.declared.fault.RunFault.TheVariants as run
use Rattle.maildir_commands.specs.Causes.{IsTooLong}
use Rattle.maildir_commands.specs.Seen.{SeenMachine}
use Rattle.maildir_commands.specs.declared.fault.Fault.{Fault}
use Rattle.maildir_commands.specs.declared.fault.Fault.TheVariants.{Source, Run}

-- the cause of a fault, for the delivery of files that the machine may refuse
abbrev pub IsOfFiles : SeenMachine → List (List ℕ) → Fault → Type 0
IsOfFiles machine files Source = (name : List ℕ) × Contains files name × machine.refuses_source name
IsOfFiles machine files (Run run.NoFromLine) = (name : List ℕ) × Contains files name × IsUnreadable (machine.text_of name)
IsOfFiles machine files (Run run.TooManyReads) = (name : List ℕ) × Contains files name × IsTooLong (machine.text_of name)
IsOfFiles machine files (Run other) = Unit {0}
IsOfFiles machine files other = ⊥
