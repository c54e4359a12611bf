-- Why a command ended with a fault.
use Rattle.std.specs.Prelude.{◌≡◌, ◌≤◌, ◌⊎◌, ℕ, ◌+◌, ◌*◌, ◌^◌, List, [], ◌∷◌, Contains, length, Option}
use Rattle.mbox_text.specs.Mbox.{IsUnreadable}
use Rattle.maildir_run.specs.declared.fault.RunFault.TheVariants as run
use Rattle.maildir_run.specs.declared.report.Report.{Report}
use Rattle.maildir_run.specs.Calls.{GoesUp}
use Rattle.maildir_run.specs.Counting.{capped, raised}
use Rattle.maildir_run.specs.Runs.{CountsRun, Possible}
use Rattle.maildir_disk.specs.declared.faults.OpenFault.{OpenFault}
use Rattle.maildir_commands.specs.declared.fault.Fault.{Fault}
use Rattle.maildir_commands.specs.declared.fault.Fault.TheVariants.{Source, Folder, Locked, Run}
use Rattle.maildir_commands.specs.Faults.{fault_of_opening}
use Rattle.maildir_commands.specs.Seen.{SeenMachine, SeenProgram}
use Rattle.maildir_commands.specs.Words.{Request, named_files}
use Rattle.maildir_commands.specs.Words.Request.{ToWrite, ToConvert}

-- the text has at least as many bytes as a run may make reads, each of which gives at least one byte
abbrev pub IsTooLong : List ℕ → Type 0
IsTooLong t = 2 ^ 40 ≤ length t

-- P holds of the text of one of the files; if no file is named, of each text that standard input may have had
abbrev pub IsOfOne : (List ℕ → List ℕ) → Option (List ℕ) → Option (List ℕ) → List (List ℕ) → (List ℕ → Type 0) → Type 0
IsOfOne text_of before after [] P = (t : List ℕ) → Possible before after t → P t
IsOfOne text_of before after (file ∷ files) P = (name : List ℕ) × Contains (file ∷ files) name × P (text_of name)

-- the request is a conversion
abbrev pub IsConversion : Request → Type 0
IsConversion (ToWrite form file) = ⊥
IsConversion (ToConvert maildir files) = Unit {0}

-- the request is a conversion, whose Maildir may be refused with this fault
abbrev pub MayRefuse : SeenMachine → Request → Fault → Type 0
MayRefuse machine (ToWrite form file) fault = ⊥
MayRefuse machine (ToConvert maildir files) fault = (reason : OpenFault) × (fault ≡ fault_of_opening reason) × machine.refuses_maildir maildir reason

-- What holds if a request ended with this fault, and left this of standard input: a file that is named, or the Maildir, may be refused; a text is
-- no mbox text, or too long; folder calls are made. Nothing is known of reads and writes that fail, or of want of memory.
abbrev pub IsCauseOf : Request → SeenProgram → Option (List ℕ) → Fault → Type 0
IsCauseOf request old after Source = (name : List ℕ) × Contains (named_files request) name × old.machine.refuses_source name
IsCauseOf request old after Folder = MayRefuse old.machine request Folder
IsCauseOf request old after Locked = MayRefuse old.machine request Locked
IsCauseOf request old after (Run run.NoFromLine) = IsOfOne old.machine.text_of old.input after (named_files request) IsUnreadable
IsCauseOf request old after (Run run.TooManyReads) = IsOfOne old.machine.text_of old.input after (named_files request) IsTooLong
IsCauseOf request old after (Run run.FolderAbsent) = IsConversion request
IsCauseOf request old after (Run (run.FolderFailed _)) = IsConversion request
IsCauseOf request old after (Run other) = Unit {0}

-- the cause of a fault, for the delivery of one source: so it is with each text that this may have had
abbrev pub IsOfDelivery : Option (List ℕ) → Option (List ℕ) → Fault → Type 0
IsOfDelivery before after (Run run.NoFromLine) = (t : List ℕ) → Possible before after t → IsUnreadable t
IsOfDelivery before after (Run run.TooManyReads) = (t : List ℕ) → Possible before after t → IsTooLong t
IsOfDelivery before after (Run other) = Unit {0}
IsOfDelivery before after other = ⊥

-- The folder call with this number failed: it is the last call of the run, or the sync after the calls of a run that was done.
abbrev pub IsFailedCall : ℕ → ℕ → ℕ → ℕ → ℕ → Type 0
IsFailedCall number calls calls' failures failures' =
    (GoesUp failures failures' × ((n : ℕ) × (calls' ≡ raised n calls) × (number ≡ capped n)))
    ⊎ ((report : Report) × CountsRun report calls calls' × (number ≡ capped (3 + report.swept + 2 * report.placed + 1)))
