-- The calls that were made of a file system, and what is known of them.
use Rattle.std.specs.Prelude.{◌≡◌, ℕ, List, [], ◌∷◌, Result, Ok, Err}
use Rattle.std.specs.declared.alloc.Global.{Global}
use Rattle.std.specs.declared.io.Error.{Error}
use Rattle.std.specs.declared.string.String.{String}
use Rattle.std.specs.declared.time.Duration.{Duration}
use Rattle.std.specs.declared.time.Instant.{Instant}
use Rattle.std.specs.declared.time.SystemTime.{SystemTime}
use Rattle.std.specs.declared.vec.Vec.{Vec}
use Rattle.maildir_run.specs.Calls.{names_of}
use Rattle.maildir_calls.specs.declared.own.Facts.{Facts}

-- what a list answered: the names
abbrev pub listed : Result (Vec (String Global) Global) Error → Result (List (List ℕ)) Error
listed (Ok names) = Ok (names_of names)
listed (Err error) = Err error

-- A call, by its path or its open file, and what it answered.
pub data Made (F : Type 0) : Type 0 where
  -- mkdir(2) with a mode, and rmdir(2)
  FolderMade : (path : List ℕ) (mode : ℕ) (answer : Result (Unit {0}) Error) → Made F
  FolderRemoved : (path : List ℕ) (answer : Result (Unit {0}) Error) → Made F
  -- open(2) for reading
  Opened : (path : List ℕ) (answer : Result F Error) → Made F
  -- the whole of readdir(3)
  Listed : (path : List ℕ) (answer : Result (List (List ℕ)) Error) → Made F
  -- stat(2), lstat(2) and fstat(2)
  Looked : (path : List ℕ) (answer : Result Facts Error) → Made F
  LookedAt : (path : List ℕ) (answer : Result Facts Error) → Made F
  LookedThrough : (file : F) (answer : Result Facts Error) → Made F
  -- open(2) for writing: of a file that must be new, with a mode; and of one that exists, for reading too
  FileMade : (path : List ℕ) (mode : ℕ) (answer : Result F Error) → Made F
  FileOpened : (path : List ℕ) (answer : Result F Error) → Made F
  -- ftruncate(2) to no bytes, and write(2)
  Emptied : (file : F) (answer : Result (Unit {0}) Error) → Made F
  Written : (file : F) (bytes : List ℕ) (answer : Result ℕ Error) → Made F
  -- fsync(2)
  Synced : (file : F) (answer : Result (Unit {0}) Error) → Made F
  -- flock(2), which does not wait
  LockTried : (file : F) (answer : Result (Unit {0}) Error) → Made F
  -- rename(2) and unlink(2)
  Moved : (from to : List ℕ) (answer : Result (Unit {0}) Error) → Made F
  FileRemoved : (path : List ℕ) (answer : Result (Unit {0}) Error) → Made F
  -- the wall clock and the monotonic clock, and a wait
  ClockRead : (answer : Result SystemTime Error) → Made F
  InstantRead : (answer : Result Instant Error) → Made F
  Waited : (pause : Duration) → Made F

-- what is known of the calls that were made until now
pub record Trace (F : Type 0) : Type 1 where
  -- that `calls` lists each call that was made
  pub known : Type 0
  -- the calls, the newest first
  pub calls : List (Made F)

-- the trace of a system of whose calls nothing is known
abbrev pub no_trace : {F : Type 0} → Trace F
no_trace = record { known = ⊥; calls = [] }

-- If the calls are known afterwards, they were known before, and `Steps` holds of the calls until then and those until now.
pub record Traces {F : Type 0} (Steps : List (Made F) → List (Made F) → Type 0) (old new : Trace F) : Type 0 where
  pub known : new.known → old.known
  pub calls : new.known → Steps old.calls new.calls

-- this call was made, and no other
abbrev pub MakesCall : {F : Type 0} → Made F → Trace F → Trace F → Type 0
MakesCall call = Traces (λ old new. new ≡ call ∷ old)
