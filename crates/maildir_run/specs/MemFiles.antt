-- The files of a folder in memory.
use Rattle.std.specs.Prelude.{ℕ, List}
use Rattle.std.specs.FinMap.{insert, remove}
use Rattle.maildir_run.specs.declared.folder.Sub.{Sub}
use Rattle.maildir_run.specs.declared.folder.Sub.TheVariants.{Tmp, New, Cur}
use Rattle.maildir_run.specs.declared.in_memory.mem_files.MemFiles.{MemFiles}
use Rattle.maildir_run.specs.Files.{Files}

-- the files of three folders in memory
abbrev pub files_in : MemFiles → Files
files_in files = record { tmp = files.in_tmp; new = files.in_new; cur = files.in_cur }

-- the files with one more in this folder, in place of what stood under its name
abbrev pub with_file : Sub → List ℕ → List ℕ → Files → Files
with_file Tmp name bytes s = record s { tmp = insert s.tmp name bytes }
with_file New name bytes s = record s { new = insert s.new name bytes }
with_file Cur name bytes s = record s { cur = insert s.cur name bytes }

-- the files without this one
abbrev pub without_file : Sub → List ℕ → Files → Files
without_file Tmp name s = record s { tmp = remove s.tmp name }
without_file New name s = record s { new = remove s.new name }
without_file Cur name s = record s { cur = remove s.cur name }
