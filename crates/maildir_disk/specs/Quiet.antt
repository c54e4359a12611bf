-- What a system call does while no other program acts.
use Rattle.std.specs.Prelude.{◌≡◌, ◌⊎◌, ℕ, List, ◌++◌, take, Result, Ok, Err, IsPermutation}
use Rattle.std.specs.IoError.{error_kind}
use Rattle.std.specs.declared.alloc.Global.{Global}
use Rattle.std.specs.declared.io.Error.{Error}
use Rattle.std.specs.declared.io.ErrorKind.TheVariants.{Interrupted}
use Rattle.std.specs.declared.string.String.{String}
use Rattle.std.specs.declared.vec.Vec.{Vec}
use Rattle.std.specs.FinMap.{keys}
use Rattle.maildir_run.specs.declared.folder.Sub.{Sub}
use Rattle.maildir_run.specs.Calls.{folder_of, names_of}
use Rattle.maildir_run.specs.Files.{Files}
use Rattle.maildir_disk.specs.World.{World}
use Rattle.maildir_disk.specs.Writing.{changed}

-- no file has changed
abbrev pub SameFiles : World → World → Type 0
SameFiles old new = new.files ≡ old.files

-- these are the folder's names, each once, in any order
abbrev pub AreNames : Sub → Files → Vec (String Global) Global → Type 0
AreNames sub s names = IsPermutation (names_of names) (keys (folder_of sub s))

-- a prefix of the bytes is appended, once; an interrupted call appends none, and after another error the file may hold any bytes
abbrev pub AppendedQuietly : List ℕ → List ℕ → Files → Result ℕ Error → Files → Type 0
AppendedQuietly name bytes old (Ok n) new = new ≡ changed name (λ held. held ++ take n bytes) old
AppendedQuietly name bytes old (Err error) new =
    (new ≡ old) ⊎ ((error_kind error ≡ Interrupted → ⊥) × (held : List ℕ) × (new ≡ changed name (λ _. held) old))
