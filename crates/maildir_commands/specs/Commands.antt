-- What a command does to Maildirs: the clause of `run` on them.
use Rattle.std.specs.Prelude.{◌≡◌, ℕ, List, Option, length, take}
use Rattle.std.specs.List.{flat_map}
use Rattle.mbox_text.specs.Writing.{AppendsPrefix}
use Rattle.maildir_run.specs.declared.report.Report.{Report}
use Rattle.maildir_run.specs.Delivery.{IsSwept}
use Rattle.maildir_run.specs.Files.{Honestly, Spared}
use Rattle.maildir_run.specs.Several.{Text}
use Rattle.maildir_commands.specs.Machines.{AreAllSafe, AreFit, GivesTexts, HeldMaildir, IsSoundFor, OthersStay}
use Rattle.maildir_commands.specs.Report.{report_line}
use Rattle.maildir_commands.specs.Seen.{SeenMachine, SeenProgram, Untouched}
use Rattle.maildir_commands.specs.Words.{convert_words}

-- There are reports, one for each of the first texts, and a beginning of their lines was printed. The texts whose line was begun are safe. If it is not
-- known what was printed, `reports` may be empty, and then nothing is said. That the counts in these lines are true is said by `RanOn`, which is not on
-- this page.
pub record PrintedSafely (spared : Spared) (texts : List Text) (before after : Option (List ℕ)) (maildir : HeldMaildir) : Type 0 where
  pub reports : List Report
  pub lines : AppendsPrefix before after (flat_map report_line reports)
  pub safe : AreAllSafe spared (take (length reports) texts) maildir

-- What a command that was to deliver these texts leaves of them in a Maildir. It ended with this status; standard output had `before` as it began, and
-- `after` at its end.
pub record LeftByCommand (spared : Spared) (texts : List Text) (status : ℕ) (before after : Option (List ℕ)) (maildir : HeldMaildir) : Type 0 where
  -- With any status the Maildir is sound for the texts, so that the same words may be given again.
  pub sound : IsSoundFor spared texts maildir
  -- With status 0 each message is safe: it is in exactly one file, and survives a power cut.
  pub safe : status ≡ 0 → AreAllSafe spared texts maildir
  -- With status 1 each message of the texts whose line it began to print is safe, if it is known what it printed.
  pub printed : status ≡ 1 → PrintedSafely spared texts before after maildir

-- A command with this status was to deliver these texts into a Maildir that was sound for them.
pub record Delivers (spared : Spared) (status : ℕ) (texts : List Text) (old new : HeldMaildir) (before after : Option (List ℕ)) : Type 0 where
  pub leaves : LeftByCommand spared texts status before after new
  -- With status 0 `tmp` is swept.
  pub swept : status ≡ 0 → IsSwept spared new.files
  -- Messages of other texts stay what they were.
  pub stay : OthersStay spared texts old new
  -- The Maildir survives a power cut, if it would have done so before.
  pub still_rooted : old.rooted → new.rooted

-- If the words are `convert INTO [FILE]...`, the machine is honest, the texts of the files fit and INTO is sound for them, then this holds of INTO and
-- of these texts.
abbrev pub OfConversion : List (List ℕ) → SeenProgram → Option (List ℕ) → (Spared → List ℕ → List Text → Type 0) → Type 0
OfConversion words old rest P =
    Honestly old.machine.honest (λ spared. (into : List ℕ) (files : List (List ℕ)) (texts : List Text) → words ≡ convert_words into files
    → GivesTexts old.machine.text_of old.input rest files texts → AreFit texts → IsSoundFor spared texts (old.machine.maildir_at into) → P spared into texts)

-- these words do not convert into the Maildir of this path
abbrev pub IsElsewhere : List (List ℕ) → SeenMachine → List ℕ → Type 0
IsElsewhere words machine path = (into : List ℕ) (files : List (List ℕ)) → words ≡ convert_words into files → ¬ machine.same into path

-- A command with these words ended with this status: 0 if it is done, 1 after a fault, 2 if the words are wrong, as `RanOn` says.
pub record ChangesMaildirs (words : List (List ℕ)) (status : ℕ) (old new : SeenProgram) : Type 0 where
  -- A conversion was to deliver the texts of its files into its Maildir. What it left there depends on the status.
  pub delivers : OfConversion words old new.input (λ spared into texts. Delivers spared status texts (old.machine.maildir_at into)
      (new.machine.maildir_at into) old.output new.output)
  -- Any other Maildir was left alone.
  pub elsewhere : (path : List ℕ) → IsElsewhere words old.machine path
      → Untouched old.machine (old.machine.maildir_at path) (new.machine.maildir_at path)
  -- Unless the status is 1, the machine still does as assumed.
  pub still_honest : Honestly old.machine.honest (λ spared. ¬ (status ≡ 1) → new.machine.honest spared)
