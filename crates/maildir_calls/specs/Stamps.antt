-- When a file was last changed.
use Rattle.std.specs.Prelude.{◌≡◌, ◌↔◌, ◌*◌, ◌+◌, ◌<ℤ◌, ◌≤ℤ◌, ℕ, pos, unsigned_abs, Result, IfErr, IfOk, IsErr, IsOk}
use Rattle.std.specs.IoError.{error_kind}
use Rattle.std.specs.Time.{FitsClock, system_time_nanos}
use Rattle.std.specs.declared.io.Error.{Error}
use Rattle.std.specs.declared.io.ErrorKind.TheVariants.{Other}
use Rattle.std.specs.declared.time.SystemTime.{SystemTime}
use Rattle.maildir_calls.specs.declared.own.Facts.{Facts}

-- The result is the time this many nanoseconds after the beginning of 1970. It is Ok exactly if a clock can show that time.
pub record TellsTime (nanos : ℕ) (result : Result SystemTime Error) : Type 0 where
  pub shown : IsOk result ↔ FitsClock nanos
  pub time : IfOk result (λ time. system_time_nanos time ≡ nanos)

-- The result tells when the file was last changed, or that the file system keeps no such time.
pub record TellsChange (found : Facts) (result : Result SystemTime Error) : Type 0 where
  pub time : pos 1 ≤ℤ found.seconds → pos 0 ≤ℤ found.nanos → TellsTime (unsigned_abs found.seconds * 1_000_000_000 + unsigned_abs found.nanos) result
  pub no_seconds : found.seconds <ℤ pos 1 → IsErr result
  pub no_nanos : found.nanos <ℤ pos 0 → IsErr result
  pub kind : IfErr result (λ error. error_kind error ≡ Other)
