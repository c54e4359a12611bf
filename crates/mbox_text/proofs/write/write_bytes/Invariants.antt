use Rattle.mbox_text.proofs.Common.{◌≤◌, length, take, Appends}
use Rattle.mbox_text.proofs.write.write_bytes.Given as goal

abbrev pub invariant-writes : goal.invariant-writes
invariant-writes g l = record {
  within : l.at ≤ length l.bytes;
  written : Appends (g.W.Write.contents l.initial.out) (g.W.Write.contents l.out) (take l.at l.bytes);
}
