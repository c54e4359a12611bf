use Rattle.std.proofs.Common.{arith}
use Rattle.std.proofs.lemmas.Bool.Decides.{Decides-eqb}
use Rattle.maildir_run.proofs.Memory.Trees.{trees_alike, alike_trees, len-map_of}
use Rattle.maildir_run.proofs.in_memory.file_tree.FileTree.is_like.Goals as goal

pub returns-then-len : goal.returns-then-len
returns-then-len c = grind (arith, trees_alike, alike_trees)

pub returns-else-len : goal.returns-else-len
returns-else-len c = grind (arith, len-map_of, Decides-eqb)
