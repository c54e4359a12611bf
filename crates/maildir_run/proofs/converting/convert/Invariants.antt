use Rattle.std.proofs.Common.{◌≡◌, suc, ◌<◌, false, cond, List, [], ◌++◌, length, None}
use Rattle.maildir_run.proofs.Common.{Entry, IsGiven, DeliversMessages, bodies_of}
use Rattle.maildir_run.proofs.converting.convert.Given as goal

abbrev pub invariant-pieces : goal.invariant-pieces
invariant-pieces g l =
    let at = g.F.Folder.at in
    record {
      given : List Entry;
      gave : IsGiven l.ended (g.R.Read.remaining l.fn.source) (g.R.Read.remaining l.source)
          l.reader.splitter l.reader.reads_left l.fn.reads (given ++ l.whole.items);
      begun : l.ended ≡ false → 0 < length (given ++ l.whole.items);
      count : l.engine.messages ≡ length given;
      delivers : DeliversMessages [] (bodies_of given) (at l.initial.folder) (at l.folder) l.initial.engine l.engine None;
    }

abbrev pub decreases-pieces : goal.decreases-pieces
decreases-pieces g l = cond l.ended 0 (suc l.reader.reads_left)
