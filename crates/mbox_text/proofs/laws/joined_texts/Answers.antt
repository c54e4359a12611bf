use Rattle.mbox_text.proofs.Written.Joined.{joined, appended, grown}
use Rattle.mbox_text.proofs.laws.joined_texts.Goals as goal

pub returns : goal.returns
returns c = record { joined = joined; appended = appended; grown = grown }
