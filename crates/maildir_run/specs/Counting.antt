-- How a run counts its folder calls, and what its faults say of them.
use Rattle.std.specs.Prelude.{◌≡◌, ℕ, zero, suc, ◌+◌, ◌%◌, ◌^◌, ◌<◌, min, Option, Some, None, Result, Ok, Err}
use Rattle.maildir_run.specs.declared.fault.RunFault.{RunFault}
use Rattle.maildir_run.specs.declared.fault.RunFault.TheVariants.{FolderAbsent, FolderFailed, OutOfMemory}
use Rattle.maildir_run.specs.Calls.{GoesUp}

-- a count of 128 bits after it went up this often
abbrev pub raised : ℕ → ℕ → ℕ
raised zero count = count
raised (suc n) count = (raised n count + 1) % 2 ^ 128

-- a number in 64 bits: it stops at the greatest
abbrev pub capped : ℕ → ℕ
capped n = min n 18446744073709551615

-- the fault of an answer
abbrev pub fault_of : {A E : Type 0} → Result A E → Option E
fault_of (Ok _) = None
fault_of (Err fault) = Some fault

-- the count of failures goes up with `FolderAbsent` and `FolderFailed`, and with no other fault
abbrev pub GoesUpWith : Option RunFault → ℕ → ℕ → Type 0
GoesUpWith (Some FolderAbsent) old new = GoesUp old new
GoesUpWith (Some (FolderFailed _)) old new = GoesUp old new
GoesUpWith other old new = new ≡ old

-- it counts the fault of this answer
abbrev pub CountsFault : {A : Type 0} → Result A RunFault → ℕ → ℕ → Type 0
CountsFault result old new = GoesUpWith (fault_of result) old new

-- the number in `FolderFailed` is this
abbrev pub HasCallNumber : Option RunFault → ℕ → Type 0
HasCallNumber (Some (FolderFailed n)) number = n ≡ number
HasCallNumber other number = Unit {0}

-- the faults of a folder call of a run, and of an allocation
abbrev pub IsOfFolder : RunFault → Type 0
IsOfFolder FolderAbsent = Unit {0}
IsOfFolder (FolderFailed _) = Unit {0}
IsOfFolder OutOfMemory = Unit {0}
IsOfFolder other = ⊥

-- A run made this many folder calls, fewer than 2^66, and a `FolderFailed` has their number, or 2^64 - 1 if that is smaller.
pub record CallNumber {A : Type 0} (answer : Result A RunFault) (old new : ℕ) : Type 0 where
  pub n : ℕ
  pub few : n < 2 ^ 66
  pub count_is : new ≡ raised n old
  pub call_number : HasCallNumber (fault_of answer) (capped n)
