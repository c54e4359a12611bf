-- How folders are synced.
use Rattle.std.specs.Prelude.{◌≡◌, ◌⊎◌, ℕ, List, ◌∷◌, Option, Some, None, Result, Ok, Err}
use Rattle.std.specs.IoError.{error_kind}
use Rattle.std.specs.declared.io.Error.{Error}
use Rattle.std.specs.declared.io.ErrorKind.TheVariants.{PermissionDenied}
use Rattle.maildir_calls.specs.Answers.{HasNoSync, LeavesOut}
use Rattle.maildir_calls.specs.Made.{Made, Opened, Synced}

-- A folder is opened, and synced through what was opened.
unfoldable pub SyncsFolder : {F : Type 0} → List ℕ → Result (Unit {0}) Error → List (Made F) → List (Made F) → Type 0
SyncsFolder {F} path result old new =
    ((error : Error) × (result ≡ Err error) × (new ≡ Opened path (Err error) ∷ old))
    ⊎ ((file : F) × (new ≡ Synced file result ∷ (Opened path (Ok file) ∷ old)))

-- The same, but the result is Ok also if the folder may not be opened, or if its file system has no sync for folders.
unfoldable pub SyncsIfPossible : {F : Type 0} → List ℕ → Result (Unit {0}) Error → List (Made F) → List (Made F) → Type 0
SyncsIfPossible {F} path result old new =
    ((error : Error) × (error_kind error ≡ PermissionDenied) × (result ≡ Ok tt) × (new ≡ Opened path (Err error) ∷ old))
    ⊎ ((error : Error) × ¬ (error_kind error ≡ PermissionDenied) × (result ≡ Err error) × (new ≡ Opened path (Err error) ∷ old))
    ⊎ ((file : F) × (answer : Result (Unit {0}) Error) × LeavesOut HasNoSync answer result
    × (new ≡ Synced file answer ∷ (Opened path (Ok file) ∷ old)))

-- The parent of a Maildir is synced. If the Maildir was just made, its parent is open and must be synced; otherwise it is synced if possible.
unfoldable pub SyncsParent : {F : Type 0} → List ℕ → Option F → Result (Unit {0}) Error → List (Made F) → List (Made F) → Type 0
SyncsParent above (Some parent) result old new = new ≡ Synced parent result ∷ old
SyncsParent above None result old new = SyncsIfPossible above result old new

-- A Maildir is synced, and then its parent.
unfoldable pub SyncsRoot : {F : Type 0} → (root above : List ℕ) → Option F → Result (Unit {0}) Error → List (Made F) → List (Made F) → Type 0
SyncsRoot {F} root above parent result old new =
    ((error : Error) × (result ≡ Err error) × SyncsFolder {F = F} root (Err error) old new)
    ⊎ ((after_root : List (Made F)) × SyncsFolder root (Ok tt) old after_root × SyncsParent above parent result after_root new)
