-- The log of the files that the calls of a system in memory touched.
use Rattle.std.specs.Prelude.{Contains, map, string_bytes}
use Rattle.std.specs.Global.{Vec}
use Rattle.maildir_run.specs.Touched.{FileName}
use Rattle.maildir_memory.specs.declared.log.Touched.{Touched}

-- a file of the log
abbrev pub file_of : Touched → FileName
file_of touched = record { sub = touched.sub; name = string_bytes touched.name }

-- the file is in the log
abbrev pub is_logged : Vec Touched → FileName → Type 0
is_logged log file = Contains (map file_of log.items) file
