use Rattle.std.proofs.Common.{arith}
use Rattle.maildir_run.proofs.Memory.Trees.{keys-map_of}
use Rattle.maildir_run.proofs.in_memory.file_tree.FileTree.names.Goals as goal

pub loop-name-init : goal.loop-name-init
loop-name-init c = grind (arith, keys-map_of)
