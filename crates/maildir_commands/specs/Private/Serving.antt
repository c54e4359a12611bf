-- What came of a request, and what it did to Maildirs.
use Rattle.std.specs.Prelude.{ℕ, List, OnOk, Result}
use Rattle.maildir_run.specs.Files.{Honestly}
use Rattle.maildir_run.specs.Several.{Text}
use Rattle.maildir_commands.specs.declared.fault.Fault.{Fault}
use Rattle.maildir_commands.specs.Machines.{AreFit, GivesTexts, IsSoundFor}
use Rattle.maildir_commands.specs.Private.Report.{DeliversTexts}
use Rattle.maildir_commands.specs.Program.{Does}
use Rattle.maildir_commands.specs.Seen.{SeenMachine, SeenProgram, Untouched}
use Rattle.maildir_commands.specs.Words.{Request}
use Rattle.maildir_commands.specs.Words.Request.{ToWrite, ToConvert}

-- a conversion delivered texts of its files
abbrev pub DeliversAsked : Request → Result Unit Fault → SeenProgram → SeenProgram → Type 0
DeliversAsked (ToWrite form file) answer old new = Unit {0}
DeliversAsked (ToConvert maildir files) answer old new =
    Honestly old.machine.honest (λ spared. (texts : List Text) → GivesTexts old.machine.text_of old.input new.input files texts
    → AreFit texts → IsSoundFor spared texts (old.machine.maildir_at maildir)
    → DeliversTexts spared answer texts (old.machine.maildir_at maildir) (new.machine.maildir_at maildir) old.output new.output)

-- the request does not convert into the Maildir of this path
abbrev pub IsOther : Request → SeenMachine → List ℕ → Type 0
IsOther (ToWrite form file) machine path = Unit {0}
IsOther (ToConvert maildir files) machine path = ¬ machine.same maildir path

-- The request was done, or ended with a fault, and this is what it did to Maildirs.
pub record Serves (request : Request) (answer : Result Unit Fault) (old new : SeenProgram) : Type 0 where
  pub does : Does request answer old new
  pub delivers : DeliversAsked request answer old new
  pub elsewhere : (path : List ℕ) → IsOther request old.machine path
      → Untouched old.machine (old.machine.maildir_at path) (new.machine.maildir_at path)
  pub honest : Honestly old.machine.honest (λ spared. OnOk answer (new.machine.honest spared))
