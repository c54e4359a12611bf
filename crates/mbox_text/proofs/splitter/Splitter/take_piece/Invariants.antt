use Rattle.mbox_text.proofs.Common.{◌≡◌, ◌≤◌, ◌-◌, length, take, Gives}
use Rattle.mbox_text.proofs.splitter.Splitter.take_piece.Given as goal

abbrev pub invariant-loop-at : goal.invariant-loop-at
invariant-loop-at l = record {
  within : l.at ≤ length l.piece;
  same : l.self.failed ≡ l.initial.self.failed;
  gives : Gives l.initial.self (take l.at l.piece) l.initial.out.items l.out.items l.self;
}

abbrev pub decreases-loop-at : goal.decreases-loop-at
decreases-loop-at l = length l.piece - l.at
