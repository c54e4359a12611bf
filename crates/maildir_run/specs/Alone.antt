-- What a quiet run leaves.
use Rattle.std.specs.Prelude.{ℕ, List, [], ◌∷◌, not, if◌then◌else◌}
use Rattle.std.specs.FinMap.{insert, retain_keys}
use Rattle.maildir_name.specs.declared.target.Place.{Place}
use Rattle.maildir_name.specs.declared.target.Place.TheVariants.{New, Cur}
use Rattle.maildir_name.specs.Names.{is_converter_name}
use Rattle.maildir_run.specs.Files.{Files}
use Rattle.maildir_run.specs.Delivery.{Message, has_home}

-- the files with every converter's name taken out of `tmp`
abbrev pub swept : Files → Files
swept s = record s { tmp = retain_keys s.tmp (λ name. not (is_converter_name name)) }

-- the files with one more under this name in `new` or `cur`
abbrev pub added : Files → Place → List ℕ → List ℕ → Files
added s New name bytes = record s { new = insert s.new name bytes }
added s Cur name bytes = record s { cur = insert s.cur name bytes }

-- the files `s` with the body of each message that has no home in `start`, at its target
abbrev pub filled : Files → List Message → Files → Files
filled start [] s = s
filled start (m ∷ ms) s = filled start ms (if has_home start m.target.base then s else added s m.target.place m.target.name m.body)

-- what a quiet run over the messages leaves: `tmp` is swept, and each message that had no home is at its target
abbrev pub alone : List Message → Files → Files
alone ms s = filled s ms (swept s)
