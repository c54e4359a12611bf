use Rattle.mbox_text.proofs.FromLine.BuiltLines.{sender-built, rest-built}
use Rattle.mbox_text.proofs.laws.parts_of_built.Goals as goal

pub returns : goal.returns
returns c = record { sender = sender-built; rest = rest-built }
