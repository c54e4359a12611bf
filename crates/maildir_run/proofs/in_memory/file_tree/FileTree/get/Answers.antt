use Rattle.std.proofs.Common.{arith}
use Rattle.maildir_run.proofs.Memory.Trees.{bytes_in, get-map_of}
use Rattle.maildir_run.proofs.in_memory.file_tree.FileTree.get.Goals as goal

pub returns-in-Some : goal.returns-in-Some
returns-in-Some c = grind (arith, bytes_in, get-map_of)

pub returns-in-None : goal.returns-in-None
returns-in-None c = grind (arith, bytes_in, get-map_of)
