-- How a file is made, emptied, moved and removed.
use Rattle.std.specs.Prelude.{◌≡◌, ◌⊎◌, ℕ, List, ◌∷◌, Result, Ok, Err, IfErr}
use Rattle.std.specs.IoError.{error_kind}
use Rattle.std.specs.declared.io.Error.{Error}
use Rattle.std.specs.declared.io.ErrorKind.TheVariants.{AlreadyExists, NotFound, Other}
use Rattle.maildir_calls.specs.declared.own.Facts.{Facts}
use Rattle.maildir_calls.specs.Made.{Made, Emptied, FileMade, FileOpened, FileRemoved, Looked, LookedAt, LookedThrough, Moved}
use Rattle.maildir_calls.specs.Own.{IsOfOwner, IsSameOwn}

-- Before a file is opened, its folder and then the file are looked at. With Ok it is a file of our own, and belongs to the owner of its folder.
unfoldable pub FindsOwn : {F : Type 0} → (folder path : List ℕ) → Result Facts Error → List (Made F) → List (Made F) → Type 0
FindsOwn folder path (Ok found) old new =
    (above : Facts) × IsOfOwner found above.owner × (new ≡ LookedAt path (Ok found) ∷ (Looked folder (Ok above) ∷ old))
FindsOwn folder path (Err error) old new =
    (new ≡ Looked folder (Err error) ∷ old)
    ⊎ ((above : Facts) × (new ≡ LookedAt path (Err error) ∷ (Looked folder (Ok above) ∷ old)))
    ⊎ ((above found : Facts) × ¬ IsOfOwner found above.owner × (error_kind error ≡ Other)
    × (new ≡ LookedAt path (Ok found) ∷ (Looked folder (Ok above) ∷ old)))

-- The file of this name is opened, and looked at through the handle. With Ok it is the file of our own that was found before.
unfoldable pub OpensSame : {F : Type 0} → List ℕ → Facts → Result F Error → List (Made F) → List (Made F) → Type 0
OpensSame path found (Ok file) old new =
    (opened : Facts) × IsSameOwn opened found × (new ≡ LookedThrough file (Ok opened) ∷ (FileOpened path (Ok file) ∷ old))
OpensSame {F} path found (Err error) old new =
    (new ≡ FileOpened path (Err error) ∷ old)
    ⊎ ((file : F) × (new ≡ LookedThrough file (Err error) ∷ (FileOpened path (Ok file) ∷ old)))
    ⊎ ((file : F) × (opened : Facts) × ¬ IsSameOwn opened found × (error_kind error ≡ Other)
    × (new ≡ LookedThrough file (Ok opened) ∷ (FileOpened path (Ok file) ∷ old)))

-- A file of our own is emptied, after a look before it was opened and one after it was opened.
unfoldable pub Empties : {F : Type 0} → (folder path : List ℕ) → Result F Error → List (Made F) → List (Made F) → Type 0
Empties {F} folder path (Ok file) old new =
    (found : Facts) × (looked opened : List (Made F))
    × FindsOwn folder path (Ok found) old looked × OpensSame path found (Ok file) looked opened × (new ≡ Emptied file (Ok tt) ∷ opened)
Empties {F} folder path (Err error) old new =
    FindsOwn {F = F} folder path (Err error) old new
    ⊎ ((found : Facts) × (looked : List (Made F))
    × FindsOwn folder path (Ok found) old looked × OpensSame {F = F} path found (Err error) looked new)
    ⊎ ((found : Facts) × (file : F) × (looked opened : List (Made F))
    × FindsOwn folder path (Ok found) old looked × OpensSame path found (Ok file) looked opened × (new ≡ Emptied file (Err error) ∷ opened))

-- A file is made under a free name, with mode 0600. If the name is taken, the file there is emptied, if it is our own.
unfoldable pub CreatesFile : {F : Type 0} → (folder path : List ℕ) → Result F Error → List (Made F) → List (Made F) → Type 0
CreatesFile {F} folder path result old new =
    ((file : F) × (result ≡ Ok file) × (new ≡ FileMade path 0o600 (Ok file) ∷ old))
    ⊎ ((error : Error) × ¬ (error_kind error ≡ AlreadyExists) × (result ≡ Err error) × (new ≡ FileMade path 0o600 (Err error) ∷ old))
    ⊎ ((taken : Error) × (error_kind taken ≡ AlreadyExists) × Empties folder path result (FileMade path 0o600 (Err taken) ∷ old) new)

-- the error of a rename(2) that found nothing: the error of a look at the file to be moved, or one of the kind `Other` if the file is there
abbrev pub IsNotMoved : Result Facts Error → Error → Type 0
IsNotMoved (Ok found) error = error_kind error ≡ Other
IsNotMoved (Err gone) error = error ≡ gone

-- A file is moved by one rename(2). If that finds nothing, a look at the file tells whether it is the file that is missing.
unfoldable pub MovesFile : {F : Type 0} → (from to : List ℕ) → Result (Unit {0}) Error → List (Made F) → List (Made F) → Type 0
MovesFile from to (Ok done) old new = new ≡ Moved from to (Ok tt) ∷ old
MovesFile from to (Err error) old new =
    (¬ (error_kind error ≡ NotFound) × (new ≡ Moved from to (Err error) ∷ old))
    ⊎ ((none : Error) × (found : Result Facts Error) × (error_kind none ≡ NotFound) × IsNotMoved found error
    × (new ≡ LookedAt from found ∷ (Moved from to (Err none) ∷ old)))

-- A file is removed. If there was none, the result is Ok too.
unfoldable pub RemovesFile : {F : Type 0} → List ℕ → Result (Unit {0}) Error → List (Made F) → List (Made F) → Type 0
RemovesFile path result old new =
    (new ≡ FileRemoved path result ∷ old)
    × IfErr result (λ error. ¬ (error_kind error ≡ NotFound))
    ⊎ ((none : Error) × (error_kind none ≡ NotFound) × (result ≡ Ok tt) × (new ≡ FileRemoved path (Err none) ∷ old))
