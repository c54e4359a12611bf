use Rattle.std.proofs.Common.{rules}
use Rattle.mbox_text.proofs.FromLine.BuiltLines.{rest-at}
use Rattle.mbox_text.proofs.TextLines.Heads.{from-long}
use Rattle.mbox_text.proofs.sender.rest_of.Goals as goal

pub after_from-after-requires : goal.after_from-after-requires
after_from-after-requires c = from-long _ c.requires.0

pub returns : goal.returns
returns c = search (rules, rest-at)
