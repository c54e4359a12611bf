use Rattle.std.proofs.Common.{arith}
use Rattle.maildir_run.proofs.Memory.Trees.{len-map_of}
use Rattle.maildir_run.proofs.in_memory.file_tree.FileTree.len.Goals as goal

pub returns : goal.returns
returns c = grind (arith, len-map_of)
