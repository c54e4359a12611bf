use Rattle.std.proofs.Common.{◌<◌, arith, rules}
use Rattle.std.specs.Duration.{as_nanos}
use Rattle.maildir_disk.proofs.Common.{system_time_nanos, IsSettled, IsFarAhead}
use Rattle.maildir_disk.proofs.Calls.Listings.{attempt_failed, must_wait, taken_if_ahead, taken_if_settled}
use Rattle.maildir_disk.proofs.Calls.Looking.{looks_then}
use Rattle.maildir_disk.proofs.one_moment.take_names.Goals as goal

pub returns-in_err-now : goal.returns-in_err-now
returns-in_err-now g c = search (rules, attempt_failed, looks_then)

pub returns-in-Young : goal.returns-in-Young
returns-in-Young g c =
    let some : 0 < as_nanos c.in-Young.pause = (rw c.in-Young.is at c.of-age.ensures).1 in
    must_wait some (search (rules, looks_then))

pub returns-in_err-names : goal.returns-in_err-names
returns-in_err-names g c = search (rules, attempt_failed, looks_then)

pub returns-in_default-2 : goal.returns-in_default-2
returns-in_default-2 g c = must_wait (omega (arith, c.pause.ensures)) (search (rules, looks_then))

pub returns-in-Settled : goal.returns-in-Settled
returns-in-Settled g c =
    let settled : IsSettled (system_time_nanos c.in_ok-stamp.stamp) (system_time_nanos c.in_ok-now.now) = rw c.in-Settled.is at c.of-age.ensures in
    taken_if_settled settled (looks_then c.stamp.ensures.looks c.now.ensures.looks)
    (λ spared h. (c.in_ok-now.ensures.now spared (c.stamp.ensures.looks.honest spared h)).no_later) (rw c.in-Some.is at c.in_ok-names.ensures)

pub returns-in_err-later : goal.returns-in_err-later
returns-in_err-later g c = search (rules, attempt_failed, looks_then)

pub returns-in-Ahead : goal.returns-in-Ahead
returns-in-Ahead g c =
    let ahead : IsFarAhead (system_time_nanos c.in_ok-stamp.stamp) (system_time_nanos c.in_ok-later.later) = rw c.in-Ahead.is at c.of.ensures in
    taken_if_ahead ahead (looks_then c.stamp.ensures.looks c.now.ensures.looks) (rw c.in-Some.is at c.in_ok-names.ensures)
    c.now-2.ensures.looks (λ spared h. (c.in_ok-later.ensures.now spared h).no_earlier)

pub returns-in_default-of : goal.returns-in_default-of
returns-in_default-of g c = must_wait (omega (arith, c.pause-in_default-of.ensures)) (search (rules, looks_then))
