use Rattle.std.proofs.Common.{◌≡◌, map, string_bytes, arith}
use Rattle.maildir_run.proofs.Common.{keys}
use Rattle.maildir_run.proofs.Memory.Trees.{keys-map_of, names_compared}
use Rattle.maildir_run.proofs.in_memory.file_tree.FileTree.has_names_of.Goals as goal

pub returns : goal.returns
returns c =
    let run = c.eq.ensures.ran in
    let told =
    names_compared _ run.0 run.8.0 run.9.0 run.5 run.6 run.1 run.2 run.3 run.4 run.8.1 run.8.2 run.9.1 run.9.2 run.10 run.11 in
    let own : map string_bytes c.keys.result ≡ keys c.args.self.now = grind (arith, keys-map_of) in
    let others : map string_bytes run.0 ≡ keys c.args.other.now = grind (arith, keys-map_of) in
    grind arith
