use Rattle.std.proofs.Common.{rules}
use Rattle.mbox_text.proofs.Splitting.Giving.{fed_taken, fed_never, fed_part}
use Rattle.mbox_text.proofs.splitter.Splitter.feed.Goals as goal

pub returns-clause-fed : goal.returns-clause-fed
returns-clause-fed c = search (rules, fed_taken)

pub returns-clause-no_from_line : goal.returns-clause-no_from_line
returns-clause-no_from_line c = search (rules, fed_never)

pub returns-clause-out_of_memory : goal.returns-clause-out_of_memory
returns-clause-out_of_memory c = search (rules, fed_part)
