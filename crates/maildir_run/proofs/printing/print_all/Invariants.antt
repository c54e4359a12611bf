use Rattle.std.proofs.Common.{List}
use Rattle.maildir_run.proofs.Common.{Appends, Entry, Gave}
use Rattle.maildir_run.proofs.printing.print_all.Given as goal

abbrev pub invariant-pieces : goal.invariant-pieces
invariant-pieces g l =
    record {
      given : List Entry;
      gave : Gave (g.R.Read.remaining l.initial.source) (g.R.Read.remaining l.source) l.reader.splitter l.reader.reads_left l.fn.reads given;
      written : Appends (g.W.Write.contents l.initial.out) (g.W.Write.contents l.out) (g.P.Printer.output given);
      printed : g.P.Printer.printed given l.printer;
    }

abbrev pub decreases-pieces : goal.decreases-pieces
decreases-pieces g l = l.reader.reads_left
