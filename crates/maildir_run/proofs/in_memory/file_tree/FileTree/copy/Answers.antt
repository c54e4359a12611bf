use Rattle.std.proofs.Common.{arith}
use Rattle.maildir_run.proofs.Memory.Trees.{copied_pairs}
use Rattle.maildir_run.proofs.in_memory.file_tree.FileTree.copy.Goals as goal

pub returns : goal.returns
returns c = grind (arith, copied_pairs)
