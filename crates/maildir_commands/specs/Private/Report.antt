-- What came of delivering texts.
use Rattle.std.specs.Prelude.{◌≡◌, ◌⊎◌, ℕ, ◌+◌, List, [], ◌∷◌, length, map, IfErr, OnErr, OnOk, Option, Some, Result}
use Rattle.std.specs.Io.KnownBytes.{Keeps}
use Rattle.mbox_text.specs.Writing.{AppendsPrefix}
use Rattle.maildir_run.specs.Delivery.{IsSwept}
use Rattle.maildir_run.specs.declared.report.Report.{Report}
use Rattle.maildir_run.specs.Foreign.{KeepsForeign}
use Rattle.maildir_run.specs.Runs.{ReportsMessages}
use Rattle.maildir_run.specs.Several.{Text}
use Rattle.maildir_run.specs.Touched.{TouchedConverters}
use Rattle.maildir_commands.specs.Machines.{AreAllSafe, AreFit, HasAlso, HeldMaildir, IsSafeIn, IsSoundFor, OthersStay, bytes_of}
use Rattle.maildir_commands.specs.declared.fault.Fault.{Fault}
use Rattle.maildir_commands.specs.Private.Causes.{IsOfFiles}
use Rattle.maildir_commands.specs.Opening.{OpensSources}
use Rattle.maildir_commands.specs.Report.{PrintsEach, PrintsReport, PrintsReports, PrintsSome, report_line}
use Rattle.maildir_commands.specs.Seen.{SeenMachine}
use Rattle.maildir_commands.specs.Sources.{SeenMaildir}
use Rattle.maildir_run.specs.Files.{Honestly, Spared}

-- The line of a true report of the text was written, or a prefix of it; the text is in the Maildir, and survives a power cut.
pub record PrintsOne (spared : Spared) (old new : HeldMaildir) (text : Text) (was is : Option (List ℕ)) : Type 0 where
  pub report : Report
  pub true_of : ReportsMessages spared text.messages old.files report
  pub safe : IsSafeIn spared new text
  pub line : AppendsPrefix was is (report_line report)

-- What came of delivering one text.
pub record DeliversOne {A E : Type 0} (spared : Spared) (answer : Result A E) (text : Text) (old new : HeldMaildir) (was is : Option (List ℕ)) : Type 0 where
  pub safe : OnOk answer (IsSafeIn spared new text)
  pub line : OnOk answer (PrintsReport was is (ReportsMessages spared text.messages old.files))
  pub known : OnOk answer (HasAlso spared text.messages old.files new.files)
  pub swept : OnOk answer (IsSwept spared new.files)
  pub stopped : OnErr answer (Keeps was is ⊎ PrintsOne spared old new text was is)
  pub stays : OthersStay spared (text ∷ []) old new
  pub still_rooted : old.rooted → new.rooted

-- What came of delivering texts into a Maildir that was sound for them.
pub record DeliversTexts {A E : Type 0} (spared : Spared) (answer : Result A E) (texts : List Text) (old new : HeldMaildir)
    (was is : Option (List ℕ)) : Type 0 where
  pub safe : OnOk answer (AreAllSafe spared texts new)
  pub each : OnOk answer (PrintsEach spared old texts was is)
  pub some : OnErr answer (PrintsSome spared old new texts was is)
  pub stay : OthersStay spared texts old new
  pub still_rooted : old.rooted → new.rooted
  pub swept : OnOk answer (IsSwept spared new.files)
  pub sound : IsSoundFor spared texts new

-- The messages of an open source, and then those of each of these files, were delivered into an open Maildir. Besides that the machine only opened the files.
pub record DeliversFiles (first : Option (List ℕ)) (files : List (List ℕ)) (answer : Result Unit Fault)
    (old new : SeenMachine) (start now : SeenMaildir) (was is : Option (List ℕ)) : Type 0 where
  pub opens : OpensSources old new
  pub printed : OnOk answer (PrintsReports was is (1 + length files))
  pub cause : Honestly old.honest (λ _. (name : List ℕ) → first ≡ Some (old.text_of name) → IfErr answer (IsOfFiles old (name ∷ files)))
  pub delivers : Honestly old.honest (λ spared. start.honest spared → (texts : List Text) (text : List ℕ) → first ≡ Some text →
      bytes_of texts ≡ text ∷ map old.text_of files → AreFit texts → IsSoundFor spared texts start.held →
      DeliversTexts spared answer texts start.held now.held was is)
  pub touches : TouchedConverters start.held.touched now.held.touched
  pub foreign : start.quiet → KeepsForeign start.held.files now.held.files
  pub honest : Honestly old.honest (λ spared. start.honest spared → OnOk answer (now.honest spared))
