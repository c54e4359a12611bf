use Rattle.std.proofs.Common.{take, flat_map}
use Rattle.maildir_run.proofs.Common.{Appends, spelling}
use Rattle.maildir_run.proofs.outputs.rewriting.write_entries.Given as goal

abbrev pub invariant-loop-entry : goal.invariant-loop-entry
invariant-loop-entry g l = Appends (g.W.Write.contents l.initial.out) (g.W.Write.contents l.out) (flat_map spelling (take l.entry-index l.entries))
