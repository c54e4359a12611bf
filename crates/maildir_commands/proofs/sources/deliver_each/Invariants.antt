use Rattle.std.proofs.Common.{◌+◌, map, string_bytes}
use Rattle.std.specs.Io.Buffered.{writer_contents}
use Rattle.maildir_commands.specs.Sources.{seen_folder}
use Rattle.maildir_commands.proofs.Files.{SoFar}
use Rattle.maildir_commands.proofs.sources.deliver_each.Given as goal

abbrev pub invariant-loop-path : goal.invariant-loop-path
invariant-loop-path g l =
    SoFar (l.path-index + 1) (g.M.Source.Read.remaining l.fn.first) (map string_bytes l.rest) (g.M.Machine.at l.fn.machine) (g.M.Machine.at l.machine)
    (seen_folder g.M.Maildir.System l.fn.folder) (seen_folder g.M.Maildir.System l.folder)
    (writer_contents g.W.Write.contents l.fn.out) (writer_contents g.W.Write.contents l.out)
