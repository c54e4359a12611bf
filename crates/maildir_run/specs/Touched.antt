-- Which files the calls of this program touch, whatever other programs do.
use Rattle.std.specs.Prelude.{◌≡◌, ℕ, ◌⊎◌, List, IsTrue, Result, Ok, Err}
use Rattle.maildir_name.specs.Names.{is_converter_name}
use Rattle.maildir_run.specs.declared.folder.Sub.{Sub}
use Rattle.maildir_run.specs.declared.folder.Sub.TheVariants.{Tmp}
use Rattle.maildir_run.specs.Calls.{Call, Listing, Writing, Placing, Removing}
use Rattle.maildir_run.specs.Files.{Action, Files, Spared, all_acted}
use Rattle.maildir_run.specs.Folders.{folder_of_place}

-- a file of a Maildir, by its folder and its name
pub record FileName : Type 0 where
  pub sub : Sub
  pub name : List ℕ

-- the file of this name in `tmp`
abbrev pub in_tmp : List ℕ → FileName
in_tmp name = record { sub = Tmp; name = name }

-- the call touches this file: it writes, moves or removes it, or moves another to it
abbrev pub Touches : Call → FileName → Type 0
Touches (Listing sub) file = ⊥
Touches (Writing own bytes) file = file ≡ in_tmp own
Touches (Placing own place target) file = (file ≡ in_tmp own) ⊎ (file ≡ record { sub = folder_of_place place; name = target })
Touches (Removing own) file = file ≡ in_tmp own

-- Each file that is touched now and was not before is such a file. Each file that was touched before still is.
pub record TouchedOnly (IsSuch old new : FileName → Type 0) : Type 0 where
  pub only : (file : FileName) → new file → IsSuch file ⊎ old file
  pub still : (file : FileName) → old file → new file

-- none was touched
abbrev pub TouchedNone : (FileName → Type 0) → (FileName → Type 0) → Type 0
TouchedNone = TouchedOnly (λ file. ⊥)

-- none was touched but those with converter's names
abbrev pub TouchedConverters : (FileName → Type 0) → (FileName → Type 0) → Type 0
TouchedConverters = TouchedOnly (λ file. IsTrue (is_converter_name file.name))

-- what the call changed is touched: each file that it touches is, or it failed and only other programs acted
abbrev pub Logs : {A E : Type 0} → Spared → Call → Files → Result A E → Files → (FileName → Type 0) → Type 0
Logs spared call old (Ok _) new touched = (file : FileName) → Touches call file → touched file
Logs spared call old (Err _) new touched =
    ((file : FileName) → Touches call file → touched file) ⊎ ((actions : List Action) × (new ≡ all_acted spared actions old))
