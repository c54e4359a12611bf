use Rattle.mbox_text.proofs.Common.{arith, rules, Appends-kept, take_rest, length-drop}
use Rattle.mbox_text.proofs.Written.Appended.{prefix_at, part_more}
use Rattle.mbox_text.proofs.write.write_bytes.Goals as goal

pub returns-in-Ok-eq0-clause-written : goal.returns-in-Ok-eq0-clause-written
returns-in-Ok-eq0-clause-written g c = search (rules, prefix_at, part_more)

pub returns-then-ne-clause-written : goal.returns-then-ne-clause-written
returns-then-ne-clause-written g c = grind (arith, prefix_at, Appends-kept)

pub writes-preserved : goal.writes-preserved
writes-preserved g c = grind (arith, take_rest, length-drop, part_more, Appends-kept)

pub returns-clause-written : goal.returns-clause-written
returns-clause-written g c = grind (arith, prefix_at)
