use Rattle.std.proofs.Common.{arith}
use Rattle.maildir_run.proofs.Memory.Trees.{map_of-insert}
use Rattle.maildir_run.proofs.in_memory.file_tree.FileTree.set.Goals as goal

pub returns-clause-ok : goal.returns-clause-ok
returns-clause-ok c = grind (arith, map_of-insert)
