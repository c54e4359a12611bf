use Rattle.std.proofs.Common.{rules}
use Rattle.maildir_disk.proofs.Calls.Listings.{names_taken, reading_failed}
use Rattle.maildir_disk.proofs.Calls.Looking.{looks_then}
use Rattle.maildir_disk.proofs.one_moment.names_of_one_moment.Goals.{else-loop-test, then-loop-test+in_ok-names+in-Wait+in_ok-instant+then-is_over}
use Rattle.maildir_disk.proofs.one_moment.names_of_one_moment.Goals as goal

pub loop-preserved : goal.loop-preserved
loop-preserved g c = search (rules, looks_then)

pub returns-in_err-start : goal.returns-in_err-start
returns-in_err-start g c = search (rules, reading_failed)

pub returns-in_err-names : goal.returns-in_err-names
returns-in_err-names g c = search (rules, reading_failed, looks_then)

pub returns-in-Taken : goal.returns-in-Taken
returns-in-Taken g c = names_taken c.loop.invariant (rw c.in-Taken.is at c.in_ok-names.ensures)

pub returns-in_err-instant : goal.returns-in_err-instant
returns-in_err-instant g c = search (rules, reading_failed, looks_then)

pub returns : goal.returns
returns g c = elim c.loop-test.branch [
  | else-loop-test w ↦ rw w.system-is (reading_failed c.args.sub _ c.give_up.ensures.err c.loop.invariant)
  | then-loop-test+in_ok-names+in-Wait+in_ok-instant+then-is_over w ↦
      rw w.system-is (reading_failed c.args.sub _ c.give_up.ensures.err
      (looks_then (looks_then c.loop.invariant w.take_names.ensures.looks) w.instant-in-loop.ensures))
]
