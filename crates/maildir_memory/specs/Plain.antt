-- What contracts see of a Maildir and of a machine of plain data.
use Rattle.std.specs.Prelude.{◌≡◌, ◌⊎◌, ℕ, List, [], Option, Some, None, IfSome, IsFalse, IsTrue, string_bytes}
use Rattle.std.specs.Time.{system_time_nanos}
use Rattle.maildir_run.specs.Files.{Files}
use Rattle.maildir_run.specs.Files.{no_files}
use Rattle.maildir_run.specs.MemFolder.{IsQuiet, SameScript, fail_from_of, files_of}
use Rattle.maildir_run.specs.declared.in_memory.mem_folder.MemFolder.{MemFolder}
use Rattle.maildir_disk.specs.declared.faults.OpenFault.TheVariants.{Locked}
use Rattle.maildir_disk.specs.SeenSystem.{SeenSystem}
use Rattle.maildir_disk.specs.World.{World}
use Rattle.maildir_commands.specs.Machines.{HeldMaildir, nothing_held}
use Rattle.maildir_commands.specs.Seen.{SeenMachine}
use Rattle.maildir_memory.specs.Logs.{is_logged}
use Rattle.maildir_memory.specs.declared.mem_system.MemFile.{MemFile}
use Rattle.maildir_memory.specs.declared.plain_system.PlainSystem.{PlainSystem}

-- the name under which a file was opened
abbrev pub opened_as : MemFile → List ℕ
opened_as file = string_bytes file.name

-- the files when something was last synced: these, if they were not changed since
abbrev pub kept_in : Option MemFolder → Files → Files
kept_in None files = files
kept_in (Some durable) files = files_of durable

-- What is kept of the files of the last sync stays, and so do the script, the clocks and what is known of the Maildir itself.
pub record Keeps (old new : PlainSystem) : Type 0 where
  pub kept : kept_in new.durable (files_of new.folder) ≡ kept_in old.durable (files_of old.folder)
  pub script : SameScript old.folder new.folder
  pub rest : new ≡ record old { folder = new.folder; durable = new.durable; log = new.log }

-- a power cut may leave the files as they are, or as they were when something was last synced
abbrev pub found_in : PlainSystem → Files → Type 0
found_in system left = (left ≡ files_of system.folder) ⊎ (left ≡ kept_in system.durable (files_of system.folder))

-- the files, the clock and the stamp of each folder
abbrev pub world_of : PlainSystem → World
world_of system = record { files = files_of system.folder; time = system_time_nanos system.clock; stamp_of = λ _. system_time_nanos system.stamp }

-- what is seen of such a Maildir, as of any system: its folder follows no script, and nobody else acts on it
abbrev pub seen_plain : PlainSystem → SeenSystem
seen_plain system = record {
  honest = λ _. IsQuiet system.folder;
  quiet = IsQuiet system.folder;
  world = world_of system;
  may_leave = found_in system;
  rooted = IsTrue system.is_rooted;
  touched = is_logged system.log;
}

-- A Maildir holds nothing, a power cut takes it away, nothing of it was touched, and nothing is scripted for its calls.
pub record IsNew (system : PlainSystem) : Type 0 where
  pub quiet : IsQuiet system.folder
  pub never_fails : fail_from_of system.folder ≡ None
  pub empty : files_of system.folder ≡ no_files
  pub none_kept : system.durable ≡ None
  pub apart : IsFalse system.is_rooted
  pub untouched : system.log.items ≡ []

-- what is seen of a Maildir as of what a machine has
abbrev pub held_plain : PlainSystem → HeldMaildir
held_plain system = record {
  files = files_of system.folder;
  may_leave = found_in system;
  rooted = IsTrue system.is_rooted;
  touched = is_logged system.log;
}

-- of the Maildir of a machine, while it is not open
abbrev pub held_by : Option PlainSystem → HeldMaildir
held_by None = nothing_held
held_by (Some system) = held_plain system

-- the Maildir follows no script, unless it is open
abbrev pub IsQuietly : Option PlainSystem → Type 0
IsQuietly maildir = IfSome maildir (λ system. IsQuiet system.folder)

-- what is seen of the machine with this text and Maildir, which each path names
abbrev pub machine_with : List ℕ → Option PlainSystem → SeenMachine
machine_with text maildir = record {
  honest = λ _. IsQuietly maildir;
  quiet = IsQuietly maildir;
  text_of = λ _. text;
  refuses_source = λ _. ⊥;
  maildir_at = λ _. held_by maildir;
  refuses_maildir = λ _ fault. (maildir ≡ None) × (fault ≡ Locked);
  is_open = λ _. maildir ≡ None;
  same = λ _ _. Unit {0};
}
