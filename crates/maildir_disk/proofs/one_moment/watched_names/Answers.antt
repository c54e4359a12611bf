use Rattle.std.proofs.Common.{arith, rules}
use Rattle.std.proofs.lemmas.Grind.{common_steps}
use Rattle.maildir_disk.proofs.Calls.Listings.{not_watched, watch_failed, watches}
use Rattle.maildir_disk.proofs.Calls.Looking.{looks_then}
use Rattle.maildir_disk.proofs.one_moment.watched_names.Goals as goal

pub returns-in_err-after : goal.returns-in_err-after
returns-in_err-after g c = search (rules, watch_failed, looks_then)

pub returns-then-eq : goal.returns-then-eq
returns-then-eq g c = watches c.in_ok-names.ensures c.in_ok-after.ensures (grind (arith, common_steps, c.if-eq.ensures))

pub returns-else-eq : goal.returns-else-eq
returns-else-eq g c = search (rules, not_watched, looks_then)
