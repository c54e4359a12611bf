-- The three folders of a Maildir.
use Rattle.std.specs.Prelude.{ℕ, List, codes}
use Rattle.maildir_name.specs.declared.target.Place.{Place}
use Rattle.maildir_name.specs.declared.target.Place.TheVariants as place
use Rattle.maildir_run.specs.declared.folder.Sub.{Sub}
use Rattle.maildir_run.specs.declared.folder.Sub.TheVariants.{Tmp, New, Cur}

-- the name of one of them (maildir(5))
abbrev pub folder_name : Sub → List ℕ
folder_name Tmp = codes "tmp"
folder_name New = codes "new"
folder_name Cur = codes "cur"

-- the folder of a place
abbrev pub folder_of_place : Place → Sub
folder_of_place place.New = New
folder_of_place place.Cur = Cur
