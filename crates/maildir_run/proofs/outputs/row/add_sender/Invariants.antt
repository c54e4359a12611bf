use Rattle.std.proofs.Common.{◌≡◌, ◌++◌, map, take}
use Rattle.maildir_run.proofs.Common.{shown_byte}
use Rattle.maildir_run.proofs.outputs.row.add_sender.Given as goal

abbrev pub invariant-loop-byte : goal.invariant-loop-byte
invariant-loop-byte l = l.line.items ≡ l.initial.line.items ++ map shown_byte (take l.byte-index l.sender)
