-- What the answers of calls mean.
use Rattle.std.specs.Prelude.{◌≡◌, ◌⊎◌, Some, Result, Ok, Err, IsOk, pos}
use Rattle.std.specs.IoError.{error_kind, raw_os_error}
use Rattle.std.specs.declared.io.Error.{Error}
use Rattle.std.specs.declared.io.ErrorKind.TheVariants.{InvalidInput, ReadOnlyFilesystem, WouldBlock}
use Rattle.maildir_run.specs.declared.folder.FolderFault.TheVariants as reason
use Rattle.maildir_disk.specs.Faults.{IsFailedAllocation}
use Rattle.maildir_disk.specs.declared.faults.OpenFault.{OpenFault}
use Rattle.maildir_disk.specs.declared.faults.OpenFault.TheVariants.{Folder, Locked}

-- the result is the answer, or Ok if the answer is such an error
abbrev pub LeavesOut : {A : Type 0} → (Error → Type 0) → Result A Error → Result A Error → Type 0
LeavesOut P (Ok value) result = result ≡ Ok value
LeavesOut P (Err error) result = (P error → IsOk result) × (¬ P error → result ≡ Err error)

-- the file system has no fsync for a folder (fsync(2): EINVAL, EROFS)
abbrev pub HasNoSync : Error → Type 0
HasNoSync error = (error_kind error ≡ InvalidInput) ⊎ (error_kind error ≡ ReadOnlyFilesystem)

-- Linux says that the file system has no lock for a folder: EBADF, ENOLCK, ENOSYS or EOPNOTSUPP
abbrev pub HasNoLocks : Error → Type 0
HasNoLocks error =
    (raw_os_error error ≡ Some (pos 9)) ⊎ (raw_os_error error ≡ Some (pos 37)) ⊎ (raw_os_error error ≡ Some (pos 38))
    ⊎ (raw_os_error error ≡ Some (pos 95))

-- The lock was not obtained. If another program holds it, the fault is `Locked`; if there are no locks, the result is Ok;
-- otherwise the call or an allocation failed.
pub record IsUnlocked {A : Type 0} (error : Error) (result : Result A OpenFault) : Type 0 where
  pub held : error_kind error ≡ WouldBlock → result ≡ Err Locked
  pub none : ¬ (error_kind error ≡ WouldBlock) → HasNoLocks error → IsOk result
  pub failed : ¬ (error_kind error ≡ WouldBlock) → ¬ HasNoLocks error → ¬ IsFailedAllocation error → result ≡ Err (Folder reason.Failed)
  pub memory : ¬ (error_kind error ≡ WouldBlock) → ¬ HasNoLocks error → IsFailedAllocation error → result ≡ Err (Folder reason.OutOfMemory)

-- what the answer to an attempt to lock means
abbrev pub Locks : {A : Type 0} → Result A Error → Result A OpenFault → Type 0
Locks (Ok value) result = result ≡ Ok value
Locks (Err error) result = IsUnlocked error result
