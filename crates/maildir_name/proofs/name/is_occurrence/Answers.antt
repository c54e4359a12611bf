use Rattle.std.proofs.Common.{arith, rules}
use Rattle.maildir_name.proofs.NameLemmas.{occurrence_then, occurrence_else}
use Rattle.maildir_name.proofs.name.is_occurrence.Goals as goal

pub returns-then-begins_with_1_to_9 : goal.returns-then-begins_with_1_to_9
returns-then-begins_with_1_to_9 c = search (rules, occurrence_then)

pub returns-else-begins_with_1_to_9 : goal.returns-else-begins_with_1_to_9
returns-else-begins_with_1_to_9 c = grind (arith, occurrence_else)
