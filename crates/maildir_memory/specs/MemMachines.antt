-- What a machine in memory has under a word.
use Rattle.std.specs.Prelude.{◌≡◌, ◌==◌, ℕ, Bool, true, false, List, [], ◌∷◌, Option, Some, None, IfOk, IfErr, OnErr, Result, Ok, Err, if◌then◌else◌}
use Rattle.std.specs.BTreeMap.{get_by_text}
use Rattle.std.specs.Map.{update}
use Rattle.std.specs.Str.{bytes_eq}
use Rattle.maildir_run.specs.declared.folder.FolderFault.TheVariants.{Failed, OutOfMemory}
use Rattle.maildir_disk.specs.declared.faults.OpenFault.{OpenFault}
use Rattle.maildir_disk.specs.declared.faults.OpenFault.TheVariants.{Folder, Locked}
use Rattle.maildir_memory.specs.declared.mem_machine.MemMachine.{MemMachine}
use Rattle.maildir_memory.specs.declared.mem_machine.NamedText.{NamedText}
use Rattle.maildir_memory.specs.declared.mem_system.MemSystem.{MemSystem}

-- the first text of this name, or no bytes if no text has it
abbrev pub text_under : List NamedText → List ℕ → List ℕ
text_under [] word = []
text_under (named ∷ texts) word = if bytes_eq named.name.now word then named.text.now else text_under texts word

-- whether a text has this name
abbrev pub has_text : List NamedText → List ℕ → Bool
has_text [] word = false
has_text (named ∷ texts) word = if bytes_eq named.name.now word then true else has_text texts word

-- the word without one slash at its end: a word names the same Maildir with it and without it
abbrev pub without_slash : List ℕ → List ℕ
without_slash [] = []
without_slash (c ∷ []) = if c == 47 then [] else c ∷ []
without_slash (c ∷ d ∷ word) = c ∷ without_slash (d ∷ word)

-- what a machine has under each word: no Maildir, or one, which may be open
abbrev pub Maildirs : Type 0
Maildirs = List ℕ → Option (Option MemSystem)

-- this is under a word without its slash, and under each other word what was there
abbrev pub Puts : List ℕ → Option MemSystem → Maildirs → Maildirs → Type 0
Puts word slot old new = (other : List ℕ) → new other ≡ update bytes_eq old (without_slash word) (Some slot) other

-- what a call answers that opens a Maildir which is there
abbrev pub opened_of : Option MemSystem → Result MemSystem OpenFault
opened_of None = Err Locked
opened_of (Some system) = Ok system

-- why a missing Maildir is not made
abbrev pub IsNotMade : Option MemSystem → OpenFault → Type 0
IsNotMade None fault = fault ≡ Folder Failed
IsNotMade (Some _) fault = fault ≡ Folder OutOfMemory

-- A missing Maildir was made of what was set for that, and is open; or it was not made, and what was set is gone.
pub record Makes (path : List ℕ) (old : MemMachine) (result : Result MemSystem OpenFault) (new : MemMachine) : Type 0 where
  pub made : IfOk result (λ maildir. (old.fresh ≡ Some maildir) × Puts path None (get_by_text old.maildirs) (get_by_text new.maildirs))
  pub refused : IfErr result (IsNotMade old.fresh)
  pub kept : OnErr result ((word : List ℕ) → get_by_text new.maildirs word ≡ get_by_text old.maildirs word)
  pub used : new.fresh ≡ None
