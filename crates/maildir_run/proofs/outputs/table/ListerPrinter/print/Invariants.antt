use Rattle.std.proofs.Common.{◌++◌, ◌<◌, ◌^◌, List, length}
use Rattle.maildir_run.proofs.Common.{Entry, HasListed}
use Rattle.maildir_run.proofs.Output.TableRows.{ListedTo}
use Rattle.maildir_run.proofs.outputs.table.ListerPrinter.print.Given as goal

abbrev pub invariant-loop-entry : goal.invariant-loop-entry
invariant-loop-entry g l = (given : List Entry) → HasListed given l.initial.self.namer l.initial.self.count → length (given ++ l.entries) < 2 ^ 63
    → ListedTo given l.entries l.entry-index (g.W.Write.contents l.initial.out) (g.W.Write.contents l.out) l.self.namer l.self.count
