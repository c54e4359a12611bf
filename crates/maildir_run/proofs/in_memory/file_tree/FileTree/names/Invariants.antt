use Rattle.std.proofs.Common.{◌≡◌, ◌++◌, map, string_bytes}
use Rattle.maildir_run.proofs.Common.{keys}
use Rattle.maildir_run.proofs.in_memory.file_tree.FileTree.names.Given as goal

abbrev pub invariant-loop-name : goal.invariant-loop-name
invariant-loop-name l = map string_bytes l.names.items ++ map string_bytes l.name-iterator ≡ keys l.self
