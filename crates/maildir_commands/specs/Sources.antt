-- What the delivery of one source does.
use Rattle.std.specs.Prelude.{◌≡◌, ◌⊎◌, ℕ, ◌^◌, List, Option, Result, IfErr, OnErr, OnOk}
use Rattle.std.specs.Io.KnownBytes.{IsAtEnd, Keeps}
use Rattle.mbox_text.specs.Writing.{AppendsPrefix}
use Rattle.maildir_run.specs.declared.fault.RunFault.TheVariants.{FolderFailed}
use Rattle.maildir_run.specs.declared.report.Report.{Report}
use Rattle.maildir_run.specs.Alone.{alone as alone_after}
use Rattle.maildir_run.specs.Delivery.{AreNamed, IsSoundAt, IsSwept, Message, AllSpared}
use Rattle.maildir_run.specs.Foreign.{KeepsForeign}
use Rattle.maildir_run.specs.Reading.{ReadsAtMost}
use Rattle.maildir_run.specs.Runs.{CountsRun, Possible, ReportsMessages}
use Rattle.maildir_run.specs.Several.{Text}
use Rattle.maildir_run.specs.Texts.{MessagesOf}
use Rattle.maildir_run.specs.Touched.{TouchedConverters}
use Rattle.maildir_disk.specs.declared.disk_folder.DiskFolder.{DiskFolder}
use Rattle.maildir_disk.specs.declared.system.System.{Ghosts}
use Rattle.maildir_disk.specs.Others.{Stays}
use Rattle.maildir_disk.specs.PowerCuts.{AreAlike, AreIntact, Survive}
use Rattle.maildir_commands.specs.declared.fault.Fault.{Fault}
use Rattle.maildir_commands.specs.declared.fault.Fault.TheVariants.{Run}
use Rattle.maildir_commands.specs.Causes.{IsFailedCall, IsOfDelivery}
use Rattle.maildir_commands.specs.Machines.{HasAlso, HasItsMessages, HeldMaildir, IsSafeIn}
use Rattle.maildir_commands.specs.Report.{PrintsReport, report_line}
use Rattle.maildir_commands.specs.Seen.{opened}
use Rattle.maildir_run.specs.Files.{Honestly, Spared}

-- what is seen of a folder, at one moment
pub record SeenMaildir : Type 1 where
  pub honest : Spared → Type 0
  pub quiet : Type 0
  pub held : HeldMaildir
  pub calls : ℕ
  pub failures : ℕ

-- what is seen of a folder, by the ghost members of its system of calls
abbrev pub seen_folder : {S File : Type 0} → Ghosts S File → DiskFolder S → SeenMaildir
seen_folder f folder =
    let seen = opened f folder.system in
    record { honest = seen.honest; quiet = seen.quiet; held = seen.held; calls = folder.calls; failures = folder.failures }

-- What is kept in a Maildir while a text is delivered into it, whatever the outcome.
pub record KeepsText (spared : Spared) (text : Text) (old new : HeldMaildir) : Type 0 where
  -- A power cut leaves no part of one of its messages, if it left none before. Messages of other texts survive a power cut, if they did before.
  pub intact : AreIntact spared text.messages old.may_leave → AreIntact spared text.messages new.may_leave
  pub still : (others : List Message) → AreNamed others → AreAlike others text.messages →
      Survive spared others old.may_leave → Survive spared others new.may_leave
  -- If the files are sound for the text, messages of other texts stay.
  pub stays : AllSpared spared (IsSoundAt old.files) text.messages → (others : List Message) → AreNamed others → AreAlike others text.messages →
      Stays spared others old.files old.may_leave new.files new.may_leave

-- A text was delivered into a Maildir whose files were sound for it, and this report is true of that.
pub record StoresText (spared : Spared) (report : Report) (text : Text) (old new : HeldMaildir) : Type 0 where
  pub reports : ReportsMessages spared text.messages old.files report
  -- The bases of its messages have a home, and `tmp` has no converter's name with a spared base.
  pub known : HasAlso spared text.messages old.files new.files
  pub swept : IsSwept spared new.files
  -- If a power cut would have left no part of a message, the text is in the Maildir, and survives a power cut.
  pub safe : AreIntact spared text.messages old.may_leave → IsSafeIn spared new text

-- What is kept while a source is delivered, whatever the outcome. `before` and `after` are what was left of the source.
pub record KeepsSource (before after : Option (List ℕ)) (old new : SeenMaildir) : Type 0 where
  pub budget : ReadsAtMost before after (2 ^ 56)
  -- If the system does as assumed, this holds for each text that the source may have had.
  pub still_rooted : Honestly old.honest (λ _. old.held.rooted → new.held.rooted)
  pub texts : Honestly old.honest (λ spared. (text : Text) → HasItsMessages text → Possible before after text.bytes →
      KeepsText spared text old.held new.held)
  -- This holds whatever the system and other programs do.
  pub touches : TouchedConverters old.held.touched new.held.touched
  -- This holds if no other program acts.
  pub foreign : old.quiet → KeepsForeign old.held.files new.held.files

-- A source was delivered: it was read to its end, by a run with this report, and the Maildir was synced.
pub record StoresSource (report : Report) (before after : Option (List ℕ)) (old new : SeenMaildir) : Type 0 where
  pub end : IsAtEnd after
  pub calls : CountsRun report old.calls new.calls
  -- If the system does as assumed, this holds for each text that the source may have had.
  pub honest : Honestly old.honest new.honest
  pub texts : Honestly old.honest (λ spared. (text : Text) → HasItsMessages text → Possible before after text.bytes →
      AllSpared spared (IsSoundAt old.held.files) text.messages → StoresText spared report text old.held new.held)
  -- This holds if no other program acts.
  pub quiet : old.quiet → new.quiet
  pub alone : old.quiet → (t : List ℕ) (ms : List Message) → Possible before after t → MessagesOf t ms → new.held.files ≡ alone_after ms old.held.files

-- Why a source was not delivered: the fault has its cause, and if a call failed, the fault has the number of that call.
pub record StopsSource (fault : Fault) (before after : Option (List ℕ)) (old new : SeenMaildir) : Type 0 where
  pub cause : IsOfDelivery before after fault
  pub failed_call : (number : ℕ) → fault ≡ Run (FolderFailed number) → IsFailedCall number old.calls new.calls old.failures new.failures

-- What came of delivering a source. `was` and `is` are what had been written to the output before and after it.
pub record DeliversSource (answer : Result Unit Fault) (before after was is : Option (List ℕ)) (old new : SeenMaildir) : Type 0 where
  pub keeps : KeepsSource before after old new
  -- With Ok it was delivered, and the line of its report was written.
  pub printed : OnOk answer (PrintsReport was is (λ report. StoresSource report before after old new))
  -- After a fault nothing was written, or the source was delivered and a prefix of its line was written.
  pub stopped : IfErr answer (λ fault. StopsSource fault before after old new)
  pub prefix : OnErr answer (Keeps was is ⊎ ((report : Report) × StoresSource report before after old new × AppendsPrefix was is (report_line report)))
