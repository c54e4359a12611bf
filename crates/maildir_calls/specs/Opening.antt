-- How a Maildir is opened.
use Rattle.std.specs.Prelude.{◌≡◌, ◌⊎◌, ℕ, List, ◌∷◌, Bool, true, false, Option, Some, None, Result, Ok, Err, IfOk}
use Rattle.std.specs.declared.io.Error.{Error}
use Rattle.maildir_disk.specs.Faults.{IsFailedAllocation}
use Rattle.maildir_disk.specs.declared.faults.OpenFault.{OpenFault}
use Rattle.maildir_disk.specs.declared.faults.OpenFault.TheVariants.{Folder}
use Rattle.maildir_run.specs.declared.folder.FolderFault.TheVariants as reason
use Rattle.maildir_run.specs.declared.folder.Sub.TheVariants.{Tmp, New, Cur}
use Rattle.maildir_calls.specs.declared.own.Facts.{Facts}
use Rattle.maildir_calls.specs.declared.opening.Held.{Held}
use Rattle.maildir_calls.specs.Answers.{Locks}
use Rattle.maildir_calls.specs.Made.{Made, FolderMade, FolderRemoved, LockTried, Looked, Opened}
use Rattle.maildir_calls.specs.Own.{IsFolder}
use Rattle.maildir_calls.specs.Paths.{folder_at, parent_at}

-- A folder is made with mode 0700, and the result is `true`. If mkdir(2) fails, but a look finds a folder there, it is `false`; otherwise it is the error.
unfoldable pub MakesFolder : {F : Type 0} → List ℕ → Result Bool Error → List (Made F) → List (Made F) → Type 0
MakesFolder path (Ok true) old new = new ≡ FolderMade path 0o700 (Ok tt) ∷ old
MakesFolder path (Ok false) old new =
    (error : Error) × (found : Facts) × IsFolder found × (new ≡ Looked path (Ok found) ∷ (FolderMade path 0o700 (Err error) ∷ old))
MakesFolder path (Err error) old new =
    (found : Result Facts Error) × IfOk found (λ facts. ¬ IsFolder facts) × (new ≡ Looked path found ∷ (FolderMade path 0o700 (Err error) ∷ old))

-- The folder of a Maildir is made if there is none. Only if it was made, its parent is opened. If that fails, the folder is removed again.
unfoldable pub MakesRoot : {F : Type 0} → List ℕ → List ℕ → Result (Option F) Error → List (Made F) → List (Made F) → Type 0
MakesRoot root above (Ok None) old new = MakesFolder root (Ok false) old new
MakesRoot root above (Ok (Some parent)) old new = new ≡ Opened above (Ok parent) ∷ (FolderMade root 0o700 (Ok tt) ∷ old)
MakesRoot root above (Err error) old new =
    MakesFolder root (Err error) old new
    ⊎ ((removed : Result (Unit {0}) Error)
    × (new ≡ FolderRemoved root removed ∷ (Opened above (Err error) ∷ (FolderMade root 0o700 (Ok tt) ∷ old))))

-- the fault of a call that failed
abbrev pub IsFaultOf : Error → OpenFault → Type 0
IsFaultOf error fault =
    (IsFailedAllocation error × (fault ≡ Folder reason.OutOfMemory)) ⊎ (¬ IsFailedAllocation error × (fault ≡ Folder reason.Failed))

-- A folder is opened, and its lock is tried through the file that was opened. With Ok that file is the result.
unfoldable pub LocksFolder : {F : Type 0} → List ℕ → Result F OpenFault → List (Made F) → List (Made F) → Type 0
LocksFolder path (Ok file) old new =
    (answer : Result (Unit {0}) Error) × Locks answer (Ok tt) × (new ≡ LockTried file answer ∷ (Opened path (Ok file) ∷ old))
LocksFolder {F} path (Err fault) old new =
    ((error : Error) × IsFaultOf error fault × (new ≡ Opened path (Err error) ∷ old))
    ⊎ ((file : F) × (answer : Result (Unit {0}) Error) × Locks {A = Unit {0}} answer (Err fault)
    × (new ≡ LockTried file answer ∷ (Opened path (Ok file) ∷ old)))

-- Those of the three folders that are missing are made, one after the other, until one cannot be made.
unfoldable pub MakesFolders : {F : Type 0} → List ℕ → List ℕ → List ℕ → Result (Unit {0}) Error → List (Made F) → List (Made F) → Type 0
MakesFolders {F} tmp new_one cur (Ok done) old new =
    (was_tmp was_new was_cur : Bool) × (after_tmp after_new : List (Made F))
    × MakesFolder tmp (Ok was_tmp) old after_tmp
    × MakesFolder new_one (Ok was_new) after_tmp after_new
    × MakesFolder cur (Ok was_cur) after_new new
MakesFolders {F} tmp new_one cur (Err error) old new =
    MakesFolder tmp (Err error) old new
    ⊎ ((was_tmp : Bool) × (after_tmp : List (Made F))
    × MakesFolder tmp (Ok was_tmp) old after_tmp × MakesFolder new_one (Err error) after_tmp new)
    ⊎ ((was_tmp was_new : Bool) × (after_tmp after_new : List (Made F))
    × MakesFolder tmp (Ok was_tmp) old after_tmp
    × MakesFolder new_one (Ok was_new) after_tmp after_new
    × MakesFolder cur (Err error) after_new new)

-- The Maildir is locked, and only then its folders are made.
unfoldable pub MakesUnderLock : {F : Type 0} → (root tmp new_one cur : List ℕ) → Result F OpenFault → List (Made F) → List (Made F) → Type 0
MakesUnderLock {F} root tmp new_one cur (Ok lock) old new =
    (after_lock : List (Made F)) × LocksFolder root (Ok lock) old after_lock × MakesFolders tmp new_one cur (Ok tt) after_lock new
MakesUnderLock {F} root tmp new_one cur (Err fault) old new =
    LocksFolder {F = F} root (Err fault) old new
    ⊎ ((lock : F) × (after_lock : List (Made F)) × (error : Error)
    × LocksFolder root (Ok lock) old after_lock × IsFaultOf error fault × MakesFolders tmp new_one cur (Err error) after_lock new)

-- The Maildir at the first path, whose parent is at the second, is made if there is none. Then it is locked and its folders are made.
unfoldable pub OpensFolders : {F : Type 0} → (root above tmp new_one cur : List ℕ) → Result (Held F) OpenFault → List (Made F) → List (Made F) → Type 0
OpensFolders {F} root above tmp new_one cur (Ok held) old new =
    (after_root : List (Made F))
    × MakesRoot root above (Ok held.parent) old after_root × MakesUnderLock root tmp new_one cur (Ok held.lock) after_root new
OpensFolders {F} root above tmp new_one cur (Err fault) old new =
    ((error : Error) × IsFaultOf error fault × MakesRoot {F = F} root above (Err error) old new)
    ⊎ ((parent : Option F) × (after_root : List (Made F))
    × MakesRoot root above (Ok parent) old after_root × MakesUnderLock {F = F} root tmp new_one cur (Err fault) after_root new)

-- The Maildir at this path is opened in this way, or there is no memory for the paths and no call is made.
abbrev pub OpensAtPath : {F : Type 0} → List ℕ → Result (Held F) OpenFault → List (Made F) → List (Made F) → Type 0
OpensAtPath root result old new =
    OpensFolders root (parent_at root) (folder_at root Tmp) (folder_at root New) (folder_at root Cur) result old new
    ⊎ ((result ≡ Err (Folder reason.OutOfMemory)) × (new ≡ old))
