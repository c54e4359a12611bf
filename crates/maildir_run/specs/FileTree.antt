-- The files of one folder in memory, as a finite map.
use Rattle.std.specs.Prelude.{ℕ, map, String, Vec, string_bytes}
use Rattle.std.specs.Coded.{Coded, coded_list, coded_ℕ}
use Rattle.std.specs.declared.alloc.Global.{Global}
use Rattle.std.specs.BTreeMap.{BTreeMap}
use Rattle.std.specs.FinMap.{from_entries, code}
use Rattle.maildir_run.specs.Files.{FileMap}

-- the code of a map of files, by which a proof tells two apart
abbrev pub file_map_code : Coded FileMap
file_map_code = code (coded_list coded_ℕ) (coded_list coded_ℕ)

-- the finite map that a tree holds
abbrev pub map_of : BTreeMap (String Global) (Vec ℕ Global) → FileMap
map_of tree = from_entries (map (λ e. (string_bytes e.0, e.1.items)) tree.entries)
