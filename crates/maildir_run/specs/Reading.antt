-- How much a call reads of its source, and the faults of reading.
use Rattle.std.specs.Prelude.{◌≡◌, ℕ, ◌≤◌, ◌⊎◌, List, length, Option}
use Rattle.std.specs.Io.KnownBytes.{Consumes}
use Rattle.maildir_run.specs.declared.fault.RunFault.{RunFault}
use Rattle.maildir_run.specs.declared.fault.RunFault.TheVariants.{NoFromLine, ReadFault, TooManyReads, OutOfMemory}

-- at most this many of the known bytes were read
abbrev pub ReadsAtMost : Option (List ℕ) → Option (List ℕ) → ℕ → Type 0
ReadsAtMost before after most = (read : List ℕ) × Consumes before after read × (length read ≤ most)

-- at least this many of the known bytes were read
abbrev pub ReadsAtLeast : Option (List ℕ) → Option (List ℕ) → ℕ → Type 0
ReadsAtLeast before after least = (read : List ℕ) × Consumes before after read × (least ≤ length read)

-- the faults of a read
abbrev pub IsReading : RunFault → Type 0
IsReading fault = (fault ≡ NoFromLine) ⊎ ((fault ≡ ReadFault) ⊎ ((fault ≡ TooManyReads) ⊎ (fault ≡ OutOfMemory)))
