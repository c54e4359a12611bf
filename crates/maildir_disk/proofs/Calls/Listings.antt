-- A listing, from the calls of the system.
use Rattle.std.proofs.Common.{◌≡◌, ◌≤◌, ◌<◌, ℕ, Option, Some, None, Result, Ok, Err, IsErr, Vec, String, Global, subst}
use Rattle.std.proofs.lemmas.Bool.{false≢true}
use Rattle.std.specs.Duration.{as_nanos}
use Rattle.std.specs.declared.time.Duration.{Duration}
use Rattle.std.specs.declared.time.SystemTime.{SystemTime}
use Rattle.maildir_disk.proofs.Common.{Sub, IsSettled, IsFarAhead, IsStampWithin, system_time_nanos}
use Rattle.maildir_disk.specs.declared.one_moment.Attempt.{Attempt}
use Rattle.maildir_disk.specs.declared.one_moment.Attempt.TheVariants.{Taken, Wait}
use Rattle.maildir_disk.specs.Private.OneMoment.{Attempts, ReadsAtOnce, Watches}
use Rattle.maildir_disk.specs.SeenSystem.{Looks, ReadsFolder, ReadsStamp, SeenSystem}
use Rattle.maildir_disk.proofs.Calls.Looking.{looks_then}
use Rattle.maildir_disk.proofs.Calls.Passing.{acts_failed, acts_on, exact_if_ahead, exact_if_settled, lists_at, lists_later, watched}
use Rattle.maildir_run.specs.Files.{Honestly}

-- ---- names that were read, and the folder's stamp after them
pub watch_failed : {E : Type 0} (sub : Sub) {stamp : ℕ} {a b : SeenSystem} (outcome : Result (Option (Vec (String Global) Global)) E)
    → IsErr outcome → Looks a b → Watches sub stamp a outcome b
watch_failed sub (Ok _) is_err looks = absurd (false≢true is_err)
watch_failed sub (Err _) is_err looks = record { looks = looks; watched = looks.acts; exact = λ q. tt }

pub not_watched : {E : Type 0} {sub : Sub} {stamp : ℕ} {a b : SeenSystem} → Looks a b → Watches {E = E} sub stamp a (Ok None) b
not_watched looks = record { looks = looks; watched = looks.acts; exact = λ q. tt }

pub watches : {E F G : Type 0} {sub : Sub} {stamp : ℕ} {a b c : SeenSystem} {names : Vec (String Global) Global} {after : SystemTime}
    → ReadsFolder {E = E} sub a (Ok names) b → ReadsStamp {E = F} sub b (Ok after) c → system_time_nanos after ≡ stamp
    → Watches {E = G} sub stamp a (Ok (Some names)) c
watches {sub} {stamp} {a} {b} {c} reads stamps same = record {
  looks = looks_then reads.looks stamps.looks;
  watched = λ spared h.
      let on = reads.looks.honest spared h in
      watched (reads.passes spared h) (stamps.passes spared on) (reads.names spared h)
      (subst (λ s. IsStampWithin spared sub b.world s c.world) same (stamps.stamp spared on));
  exact = reads.exact;
}

-- ---- one attempt
pub attempt_failed : {E : Type 0} (sub : Sub) {a b : SeenSystem} (outcome : Result Attempt E) → IsErr outcome → Looks a b → Attempts sub a outcome b
attempt_failed sub (Ok _) is_err looks = absurd (false≢true is_err)
attempt_failed sub (Err _) is_err looks = record { looks = looks; looked = looks.acts; exact = λ q. tt; pauses = tt }

pub must_wait : {E : Type 0} {sub : Sub} {pause : Duration} {a b : SeenSystem} → 0 < as_nanos pause → Looks a b
    → Attempts {E = E} sub a (Ok (Wait pause)) b
must_wait some looks = record { looks = looks; looked = looks.acts; exact = λ q. tt; pauses = some }

-- the stamp had settled before the names were read
pub taken_if_settled : {E F : Type 0} {sub : Sub} {stamp now : ℕ} {a b c : SeenSystem} {names : Vec (String Global) Global} → IsSettled stamp now
    → Looks a b → Honestly a.honest (λ _. now ≤ b.world.time) → Watches {E = E} sub stamp b (Ok (Some names)) c
    → Attempts {E = F} sub a (Ok (Taken names)) c
taken_if_settled settled looks no_later watches = record {
  looks = looks_then looks watches.looks;
  looked = λ spared h.
      let found = watches.watched spared (looks.honest spared h) in
      lists_at (looks.acts spared h) found.acts (exact_if_settled settled (no_later spared h) found);
  exact = λ q. rw (looks.quietly q) at (watches.exact (looks.quiet q));
  pauses = tt;
}

-- the stamp was far ahead of the clock after the names were read
pub taken_if_ahead : {E F : Type 0} {sub : Sub} {stamp later : ℕ} {a b c d : SeenSystem} {names : Vec (String Global) Global} → IsFarAhead stamp later
    → Looks a b → Watches {E = E} sub stamp b (Ok (Some names)) c → Looks c d → Honestly c.honest (λ _. c.world.time ≤ later)
    → Attempts {E = F} sub a (Ok (Taken names)) d
taken_if_ahead ahead looks watches then no_earlier = record {
  looks = looks_then looks (looks_then watches.looks then);
  looked = λ spared h.
      let on = looks.honest spared h in
      let read = watches.looks.honest spared on in
      let found = watches.watched spared on in
      lists_at (looks.acts spared h) (acts_on found.acts (then.acts spared read)) (exact_if_ahead ahead (no_earlier spared read) found);
  exact = λ q. rw (looks.quietly q) at (watches.exact (looks.quiet q));
  pauses = tt;
}

-- ---- several attempts
pub reading_failed : {E : Type 0} (sub : Sub) {a b : SeenSystem} (outcome : Result (Vec (String Global) Global) E)
    → IsErr outcome → Looks a b → ReadsAtOnce sub a outcome b
reading_failed sub (Ok _) is_err looks = absurd (false≢true is_err)
reading_failed sub (Err _) is_err looks = record { looks = looks; listed = λ spared h. acts_failed (looks.acts spared h); exact = λ q. tt }

pub names_taken : {E F : Type 0} {sub : Sub} {a b c : SeenSystem} {names : Vec (String Global) Global} → Looks a b
    → Attempts {E = E} sub b (Ok (Taken names)) c → ReadsAtOnce {E = F} sub a (Ok names) c
names_taken looks attempt = record {
  looks = looks_then looks attempt.looks;
  listed = λ spared h. lists_later (looks.acts spared h) (attempt.looked spared (looks.honest spared h));
  exact = λ q. rw (looks.quietly q) at (attempt.exact (looks.quiet q));
}
