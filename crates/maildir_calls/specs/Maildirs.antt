-- What is kept open of a Maildir, and the calls that its methods make.
use Rattle.std.specs.Prelude.{◌≡◌, ◌⊎◌, ℕ, List, ◌∷◌, Result, Ok, Err, IsErrAnd, string_bytes}
use Rattle.std.specs.IoError.{error_kind}
use Rattle.std.specs.declared.io.Error.{Error}
use Rattle.std.specs.declared.io.ErrorKind.TheVariants.{OutOfMemory}
use Rattle.std.specs.declared.time.SystemTime.{SystemTime}
use Rattle.maildir_calls.specs.declared.maildir.MaildirAt.{MaildirAt}
use Rattle.maildir_calls.specs.declared.own.Facts.{Facts}
use Rattle.maildir_calls.specs.Made.{Made, Looked, Trace, Traces}
use Rattle.maildir_calls.specs.Opening.{OpensAtPath}
use Rattle.maildir_calls.specs.Stamps.{TellsChange}

-- The Maildir is the one at this path, opened by these calls.
pub record IsOpenAt {C F : Type 0} (path : List ℕ) (old : Trace F) (trace : C → Trace F) (maildir : MaildirAt C F) : Type 0 where
  pub path_of : string_bytes maildir.paths.root ≡ path
  pub opened : Traces (OpensAtPath path (Ok maildir.held)) old (trace maildir.calls)

-- these calls are made, or there is no memory for a path and no call is made
abbrev pub OrNoMemory : {A F : Type 0} → Result A Error → (List (Made F) → List (Made F) → Type 0) → List (Made F) → List (Made F) → Type 0
OrNoMemory result Steps old new = Steps old new ⊎ (IsErrAnd result (λ error. error_kind error ≡ OutOfMemory) × (new ≡ old))

-- One look at a folder gives its time of change: ctime of stat(2), which no program can set.
unfoldable pub TellsStamp : {F : Type 0} → List ℕ → Result SystemTime Error → List (Made F) → List (Made F) → Type 0
TellsStamp path result old new =
    ((error : Error) × (result ≡ Err error) × (new ≡ Looked path (Err error) ∷ old))
    ⊎ ((found : Facts) × TellsChange found result × (new ≡ Looked path (Ok found) ∷ old))
