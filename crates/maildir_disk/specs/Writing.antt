-- What the system calls of a write do: make or empty a file of `tmp`, append to it, sync it.
use Rattle.std.specs.Prelude.{◌≡◌, ◌⊎◌, ℕ, List, [], ◌++◌, take, Option, Some, None, Result, Ok, Err}
use Rattle.std.specs.IoError.{error_kind}
use Rattle.std.specs.declared.io.Error.{Error}
use Rattle.std.specs.declared.io.ErrorKind.TheVariants.{Interrupted}
use Rattle.std.specs.FinMap.{get, insert}
use Rattle.maildir_run.specs.Files.{Files, FileMap, Action, all_acted, Spared}
use Rattle.maildir_run.specs.Calls.{Writing, effect}
use Rattle.maildir_disk.specs.World.{World, Acts}

-- The effect came at one moment of the call. Other programs may have acted before and after it.
pub record Comes (spared : Spared) (effect : Files → Files) (old new : World) : Type 0 where
  pub before : List Action
  pub rest : List Action
  pub left : new.files ≡ all_acted spared rest (effect (all_acted spared before old.files))

-- the files of a folder, with the bytes of one file changed; the last argument is what it holds, if it is there
abbrev pub rewritten : FileMap → List ℕ → (List ℕ → List ℕ) → Option (List ℕ) → FileMap
rewritten files name change None = files
rewritten files name change (Some held) = insert files name (change held)

-- a change of the open file: the file of this name in `tmp`, if the name is still there
abbrev pub changed : List ℕ → (List ℕ → List ℕ) → Files → Files
changed name change s = record s { tmp = rewritten s.tmp name change (get s.tmp name) }

-- the file is made, or emptied if it was there; after an error it may have been
abbrev pub Created : {A E : Type 0} → Spared → List ℕ → World → Result A E → World → Type 0
Created spared name old (Ok _) new = Comes spared (effect (Writing name [])) old new
Created spared name old (Err _) new = Acts spared old new ⊎ Comes spared (effect (Writing name [])) old new

-- a prefix of the bytes is appended; an interrupted call appends none, and after another error the file may hold any bytes
abbrev pub Appended : Spared → List ℕ → List ℕ → World → Result ℕ Error → World → Type 0
Appended spared name bytes old (Ok n) new = Comes spared (changed name (λ held. held ++ take n bytes)) old new
Appended spared name bytes old (Err error) new =
    Acts spared old new ⊎ ((error_kind error ≡ Interrupted → ⊥) × (held : List ℕ) × Comes spared (changed name (λ _. held)) old new)
