use Rattle.std.proofs.Common.{arith}
use Rattle.maildir_run.proofs.Memory.Trees.{map_of-remove}
use Rattle.maildir_run.proofs.in_memory.file_tree.FileTree.remove.Goals as goal

pub returns : goal.returns
returns c = grind (arith, map_of-remove)
