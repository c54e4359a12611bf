use Rattle.std.proofs.Common.{◌≡◌, ◌≤◌, ℕ, List, [], Option}
use Rattle.maildir_run.proofs.Common.{Entry, Gave}
use Rattle.maildir_run.proofs.reader.Reader.next_batch.Given as goal

abbrev pub invariant-pieces : goal.invariant-pieces
invariant-pieces g l =
    let remaining = g.R.Read.remaining in
    record {
      gave : (before : Option (List ℕ)) (reads : ℕ) (given : List Entry)
          → Gave before (remaining l.initial.source) l.initial.self.splitter l.initial.self.reads_left reads given
          → Gave before (remaining l.source) l.self.splitter l.self.reads_left reads given;
      empty : l.whole.items ≡ [];
      fewer : l.self.reads_left ≤ l.initial.self.reads_left;
    }

abbrev pub decreases-pieces : goal.decreases-pieces
decreases-pieces g l = l.self.reads_left
