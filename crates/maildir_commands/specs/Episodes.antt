-- What happens to a Maildir: commands, other programs and power cuts, one after the other.
use Rattle.std.specs.Prelude.{◌≡◌, ◌⊎◌, ℕ, List, All, Contains, Option}
use Rattle.maildir_run.specs.Files.{Files, KeepsHomes, Spared}
use Rattle.maildir_run.specs.Files.{no_files}
use Rattle.maildir_run.specs.Runs.{Chain}
use Rattle.maildir_run.specs.Several.{Text}
use Rattle.maildir_disk.specs.PowerCuts.{IsSingle}
use Rattle.maildir_commands.specs.Commands.{ChangesMaildirs, IsElsewhere}
use Rattle.maildir_commands.specs.Machines.{GivesTexts, HeldMaildir, Rests}
use Rattle.maildir_commands.specs.Seen.{SeenMachine, SeenProgram, seen_with}
use Rattle.maildir_commands.specs.Words.{convert_words}

-- What happens to a Maildir. It happens one after the other, so it is assumed that no two commands are at work in it at a time.
pub data Episode : Type 0 where
  -- A command that was to deliver these texts ended with this status; one that was killed counts as one with status 1. Standard output had `before` as it
  -- began, and `after` at its end.
  Conversion : (texts : List Text) → (status : ℕ) → (before after : Option (List ℕ)) → Episode
  -- A command ended that does not convert into this Maildir.
  Elsewhere : Episode
  -- no command was at work; other programs acted, or none did
  Others : Episode
  -- the power was cut
  Cut : Episode

-- These words are to deliver these texts, those of the files, into the Maildir of this path. Each is among `texts`.
abbrev pub IsToDeliver : List ℕ → List Text → List Text → List (List ℕ) → SeenProgram → Option (List ℕ) → Type 0
IsToDeliver path texts these words old rest =
    (into : List ℕ) × (files : List (List ℕ)) × (words ≡ convert_words into files) × old.machine.same into path
    × GivesTexts old.machine.text_of old.input rest files these × All (Contains texts) these

-- A command. One that was killed has status 1 here: some of its calls were made, of the last one any part, and then no more. If the power is cut while a
-- command is at work, it was killed, and then comes the cut.
pub record Commanded {M : Type 0} (spared : Spared) (at : M → SeenMachine) (Asks : List (List ℕ) → SeenProgram → Option (List ℕ) → Type 0)
    (status : ℕ) (before after : Option (List ℕ)) (old new : M) : Type 0 where
  -- It may have any words that ask for this. `input` is standard input as it begins, and `rest` is what it leaves of that.
  pub words : List (List ℕ)
  pub input : Option (List ℕ)
  pub rest : Option (List ℕ)
  pub asked : Asks words (seen_with (at old) input before) rest
  -- It does what the contract of `run` is proved to say, and that of `run_killed` of one that was killed.
  pub did : ChangesMaildirs words status (seen_with (at old) input before) (seen_with (at new) rest after)
  -- This is a premise: after status 1 the machine does as assumed again, whether a call failed, also a sync, or the command was killed.
  pub again : status ≡ 1 → (at new).honest spared

-- The power was cut.
pub record LeftByPowerCut (spared : Spared) (old new : HeldMaildir) : Type 0 where
  -- This is a premise: it left one of the states that it may leave, or nothing, if the Maildir was not rooted.
  pub left : Files
  pub may : old.may_leave left ⊎ ((¬ old.rooted) × (left ≡ no_files))
  -- This is a premise: it left no file under two names. Where `whole` is chosen it holds of any cut, and what it says is a part of `honest`.
  pub single : IsSingle spared old.files left
  -- This is a premise: of the spared messages, what it left is what is there now.
  pub is_there : KeepsHomes spared left new.files
  -- This is a premise: a later cut would leave the same of them.
  pub stays : (later : Files) → new.may_leave later → KeepsHomes spared new.files later
  -- This is a premise: the Maildir would survive a later cut, if it was rooted before this one.
  pub still_rooted : old.rooted → new.rooted

-- An episode leads from one moment of a machine to another. These are premises: what other programs do leaves a machine that still does as assumed, and
-- after a power cut it does so again.
abbrev pub LeadsTo : {M : Type 0} → Spared → (M → SeenMachine) → List ℕ → List Text → Episode → M → M → Type 0
LeadsTo spared at path texts (Conversion these status before after) old new = Commanded spared at (IsToDeliver path texts these) status before after old new
LeadsTo spared at path texts Elsewhere old new =
    (status : ℕ) × (before after : Option (List ℕ)) × Commanded spared at (λ words seen rest. IsElsewhere words seen.machine path) status before after old new
LeadsTo spared at path texts Others old new =
    Rests spared ((at old).maildir_at path) ((at new).maildir_at path) × ((at old).honest spared → (at new).honest spared)
LeadsTo spared at path texts Cut old new = LeftByPowerCut spared ((at old).maildir_at path) ((at new).maildir_at path) × (at new).honest spared

-- any episodes, one after the other
abbrev pub IsHistory : {M : Type 0} → Spared → (M → SeenMachine) → List ℕ → List Text → List Episode → M → M → Type 0
IsHistory spared at path texts = Chain (LeadsTo spared at path texts)
