-- What a command does, and how it ends.
use Rattle.std.specs.Prelude.{◌≡◌, ◌⊎◌, ℕ, List, [], length, max, codes, Option, Some, None, Result, Ok, Err, OnOk, IfErr}
use Rattle.std.specs.Io.KnownBytes.{Keeps}
use Rattle.std.specs.declared.io.Error.{Error}
use Rattle.mbox_text.specs.declared.entry.Entry.{Entry}
use Rattle.mbox_text.specs.declared.fault.TextFault.{TextFault}
use Rattle.mbox_text.specs.Writing.{Writes}
use Rattle.maildir_run.specs.declared.fault.RunFault.TheVariants as run
use Rattle.maildir_run.specs.Foreign.{KeepsForeign}
use Rattle.maildir_run.specs.Runs.{Possible}
use Rattle.maildir_run.specs.Several.{Text}
use Rattle.maildir_run.specs.Touched.{TouchedConverters}
use Rattle.maildir_disk.specs.Faults.{IsFailedAllocation}
use Rattle.maildir_commands.specs.declared.fault.Fault.{Fault}
use Rattle.maildir_commands.specs.declared.fault.Fault.TheVariants.{Run}
use Rattle.maildir_commands.specs.Causes.{IsCauseOf}
use Rattle.maildir_commands.specs.Commands.{ChangesMaildirs, OfConversion}
use Rattle.maildir_commands.specs.Faults.{fault_text, told}
use Rattle.maildir_commands.specs.Machines.{HeldMaildir}
use Rattle.maildir_commands.specs.Output.{WritesAll, WritesPrefix, output_of}
use Rattle.maildir_commands.specs.Report.{PrintsEach, PrintsReports, PrintsSome}
use Rattle.maildir_commands.specs.Seen.{SeenMachine, SeenProgram, Streams, seen_at}
use Rattle.maildir_commands.specs.Words.{AreOfAForm, AskFor, Request, named_files}
use Rattle.maildir_commands.specs.Words.Request.{ToWrite, ToConvert}
use Rattle.maildir_run.specs.Files.{Honestly, Spared}

-- ---- `rewrite` and `list`
-- it is known what the source has: of a file only if the machine does as assumed, of standard input always
abbrev pub IsKnown : Spared → Option (List ℕ) → SeenProgram → Type 0
IsKnown spared None old = Unit {0}
IsKnown spared (Some file) old = old.machine.honest spared

-- what the source has: a file its text, standard input what is left of it
abbrev pub source_of : Option (List ℕ) → SeenProgram → Option (List ℕ)
source_of None old = old.input
source_of (Some file) old = Some (old.machine.text_of file)

-- a file had this text, or standard input may have had it, if `after` is what is left of that
abbrev pub MayHaveHad : Option (List ℕ) → SeenProgram → Option (List ℕ) → List ℕ → Type 0
MayHaveHad None old after t = Possible old.input after t
MayHaveHad (Some file) old after t = t ≡ old.machine.text_of file

-- The output for the messages of a source's text was written, all of it or a prefix.
pub record WritesOut (output : List Entry → List ℕ) (file : Option (List ℕ)) (answer : Result Unit Fault) (old new : SeenProgram) : Type 0 where
  -- With Ok all of it was written.
  pub all : (spared : Spared) → IsKnown spared file old → OnOk answer (WritesAll output (source_of file old) old.output new.output)
  -- In any case a prefix was written.
  pub prefix : (spared : Spared) → IsKnown spared file old → (t : List ℕ) → MayHaveHad file old new.input t → WritesPrefix output t old.output new.output

-- ---- `convert`
-- The messages of the files, or of standard input if no file is named, were delivered into a Maildir.
pub record DeliversInto (maildir : List ℕ) (files : List (List ℕ)) (answer : Result Unit Fault) (old new : SeenProgram) : Type 0 where
  -- With Ok a line was written for each source.
  pub printed : OnOk answer (PrintsReports old.output new.output (max 1 (length files)))
  -- The program touched only those files of the Maildir that have converter's names.
  pub touches : Honestly old.machine.honest (λ _. TouchedConverters (old.machine.maildir_at maildir).touched (new.machine.maildir_at maildir).touched)
  -- If no other program acts, files of other programs stay as they are.
  pub foreign : old.machine.quiet → KeepsForeign (old.machine.maildir_at maildir).files (new.machine.maildir_at maildir).files

-- A command with this status, which was to deliver these texts, printed these lines.
pub record TellsTruth (spared : Spared) (status : ℕ) (texts : List Text) (old new : HeldMaildir) (was is : Option (List ℕ)) : Type 0 where
  -- With status 0 it printed the line of a true report for each text.
  pub each : status ≡ 0 → PrintsEach spared old texts was is
  -- With status 1 it printed a prefix of the lines for the first few texts. These texts are in the Maildir, and survive a power cut.
  pub some : status ≡ 1 → PrintsSome spared old new texts was is

-- ---- the program
-- what is done for each request
abbrev pub Works : Request → Result Unit Fault → SeenProgram → SeenProgram → Type 0
Works (ToWrite form file) = WritesOut (output_of form) file
Works (ToConvert maildir files) = DeliversInto maildir files

-- The request was done, or ended with a fault.
pub record Does (request : Request) (answer : Result Unit Fault) (old new : SeenProgram) : Type 0 where
  pub works : Works request answer old new
  -- A fault has its cause.
  pub cause : Honestly old.machine.honest (λ _. IfErr answer (IsCauseOf request old new.input))
  -- Standard input is read only if no file is named.
  pub unread : ¬ (named_files request ≡ []) → new.input ≡ old.input
  -- The sources have the same texts as before.
  pub texts : Honestly old.machine.honest (λ _. new.machine.text_of ≡ old.machine.text_of)

-- The words are of one of the forms, and what they ask for was done, or ended with a fault.
pub record Did (words : List (List ℕ)) (answer : Result Unit Fault) (old new : SeenProgram) : Type 0 where
  pub form : AreOfAForm words
  pub does : (request : Request) → AskFor words request → Does request answer old new

-- a line was written, or a prefix of it if the writer failed
abbrev pub Tells : List ℕ → Option (List ℕ) → Option (List ℕ) → Type 0
Tells line was is = (written : Result Unit TextFault) × Writes was is written line

-- how a command ended: it is done, a fault stopped it, or the words are wrong
pub data Ending : Type 0 where
  Done : Ending
  Stopped : (fault : Fault) → Ending
  WrongWords : Ending

-- the status of the program (this project's own rule)
abbrev pub status_of : Ending → ℕ
status_of Done = 0
status_of (Stopped fault) = 1
status_of WrongWords = 2

-- A command with these words ended in this way. `was` and `is` are what had been written to standard error before and after it. If all was done, nothing was
-- added. Otherwise one line was added, for the fault that ended the work or for wrong words, or a prefix of it if the writer failed.
abbrev pub Ends : List (List ℕ) → Ending → SeenProgram → SeenProgram → Option (List ℕ) → Option (List ℕ) → Type 0
Ends words Done old new was is = Did words (Ok tt) old new × Keeps was is
Ends words (Stopped fault) old new was is = Did words (Err fault) old new × Tells (told (fault_text fault)) was is
Ends words WrongWords old new was is = ¬ AreOfAForm words × Tells (told (codes "wrong words")) was is

-- A command with these words ended with this status. It led from one moment of a machine and of its streams to another.
pub record RanOn {M : Type 0} (at : M → SeenMachine) (words : List (List ℕ)) (status : ℕ) (old new : M) (was is : Streams) : Type 0 where
  pub ending : Ending
  pub status_is : status ≡ status_of ending
  pub ran : Ends words ending (seen_at (at old) was) (seen_at (at new) is) was.errors is.errors
  -- This is what it did to Maildirs, and the lines that it printed about this are true.
  pub maildirs : ChangesMaildirs words status (seen_at (at old) was) (seen_at (at new) is)
  pub true_of : OfConversion words (seen_at (at old) was) is.input (λ spared into texts. TellsTruth spared status texts ((at old).maildir_at into)
      ((at new).maildir_at into) was.output is.output)
  -- If the words are of no form, nothing was done.
  pub untouched : status ≡ 2 → (new ≡ old) × (is.input ≡ was.input)

-- There are no words, or no buffer for the output, because of this error. If an allocation failed, the status is 1, and the line says so; otherwise
-- it is 2, and the line is that of wrong words.
abbrev pub RefusesWords : Error → ℕ → Option (List ℕ) → Option (List ℕ) → Type 0
RefusesWords error status was is =
    (IsFailedAllocation error × (status ≡ 1) × Tells (told (fault_text (Run run.OutOfMemory))) was is)
    ⊎ (¬ IsFailedAllocation error × (status ≡ 2) × Tells (told (codes "wrong words")) was is)
