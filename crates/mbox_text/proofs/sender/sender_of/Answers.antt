use Rattle.std.proofs.Common.{arith}
use Rattle.mbox_text.proofs.FromLine.BuiltLines.{sender-at}
use Rattle.mbox_text.proofs.TextLines.Heads.{from-long}
use Rattle.mbox_text.proofs.sender.sender_of.Goals as goal

pub after_from-after-requires : goal.after_from-after-requires
after_from-after-requires c = from-long _ c.requires.0

pub returns : goal.returns
returns c = grind (arith, sender-at)
