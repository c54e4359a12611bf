use Rattle.mbox_text.proofs.Reading.Prefixes.{prefix_reading}
use Rattle.mbox_text.proofs.laws.prefix_reading.Goals as goal

pub returns : goal.returns
returns c = prefix_reading
