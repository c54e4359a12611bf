-- The paths of a Maildir.
use Rattle.std.specs.Prelude.{ℕ, List, ◌++◌, ◌∷◌, codes}
use Rattle.maildir_run.specs.declared.folder.Sub.{Sub}
use Rattle.maildir_run.specs.Folders.{folder_name}

-- the parent of the Maildir at this path
abbrev pub parent_at : List ℕ → List ℕ
parent_at root = root ++ codes "/.."

-- one of its three folders
abbrev pub folder_at : List ℕ → Sub → List ℕ
folder_at root sub = root ++ 47 ∷ folder_name sub

-- a file in one of them
abbrev pub file_at : List ℕ → Sub → List ℕ → List ℕ
file_at root sub name = root ++ 47 ∷ (folder_name sub ++ 47 ∷ name)
