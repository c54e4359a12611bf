use Rattle.mbox_text.proofs.Common.{◌≡◌, ◌++◌, take, map, hyphened}
use Rattle.mbox_text.proofs.build.add_cleaned.Given as goal

abbrev pub invariant-loop-byte : goal.invariant-loop-byte
invariant-loop-byte l = l.line.items ≡ l.initial.line.items ++ map hyphened (take l.byte-index l.sender)
