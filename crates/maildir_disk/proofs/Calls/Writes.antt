-- A write, from the calls of the system.
use Rattle.std.proofs.Common.{◌≡◌, ◌∙◌, inl, inr, ℕ, [], List, ◌++◌, Result, Ok, Err, IsErr, OnOk, take}
use Rattle.std.proofs.lemmas.Bool.{false≢true}
use Rattle.std.specs.IoError.{error_kind}
use Rattle.std.specs.declared.io.ErrorKind.TheVariants.{Interrupted}
use Rattle.maildir_run.specs.Touched.{FileName, TouchedOnly, Touches}
use Rattle.maildir_run.proofs.Call.Touching.{logs_all, touched_none, touched_then}
use Rattle.maildir_run.specs.Files.{Honestly}
use Rattle.maildir_disk.proofs.Common.{Appended, AppendedQuietly, effect, Error, Follows, KeepsHeld, Leaves, Writing, Written, Spared, all_bases}
use Rattle.maildir_disk.specs.Private.Effects.{TakesEffect}
use Rattle.maildir_disk.specs.SeenSystem.{AppendsToFile, Looks, MakesFile, SeenSystem}
use Rattle.maildir_disk.proofs.Calls.Pieces.{append_failed, not_created, write_called, write_failed, write_succeeded, written_changed, written_on}
use Rattle.maildir_disk.proofs.Calls.QuietWrites.{appended_quietly, grown_quietly, not_created_quietly, torn_quietly, written_quietly}
use Rattle.maildir_disk.proofs.Left.Lefts.{left_both, left_more, left_torn, left_written}

-- The file `under`, which was made with this name, holds these bytes, as if they had been written when it was made.
pub record WritesSoFar (name held under : List ℕ) (is_current : Type 0) (old new : SeenSystem) : Type 0 where
  pub honest : Honestly old.honest new.honest
  pub left : Honestly old.honest (λ spared. Follows (Leaves spared (Writing name [])) old.may_leave new.may_leave)
  pub still_rooted : Honestly old.honest (λ _. old.rooted → new.rooted)
  pub logged : Honestly old.honest (λ _. (file : FileName) → Touches (Writing name []) file → new.touched file)
  pub touches : TouchedOnly (Touches (Writing name [])) old.touched new.touched
  pub quiet : old.quiet → new.quiet
  pub quiet_is_honest : (spared : Spared) → old.quiet → old.honest spared
  pub named : Honestly old.honest (λ _. under ≡ name)
  pub current : Honestly old.honest (λ _. is_current)
  pub holds : Honestly old.honest (λ spared. Written spared name held old.world new.world)
  pub quietly : old.quiet → new.world.files ≡ effect (Writing name held) old.world.files

-- the file was not made
pub not_made : {A B E F : Type 0} {name bytes : List ℕ} {a b : SeenSystem} {error : E} (result : Result B F) → IsErr result
    → MakesFile {A = A} name a (Err error) b → TakesEffect (Writing name bytes) a result b
not_made (Ok _) is_err makes = absurd (false≢true is_err)
not_made {name = name} {bytes = bytes} (Err _) is_err makes = record {
  honest = makes.honest;
  called = λ spared h. not_created name bytes (makes.created spared h);
  left = λ spared h. left_torn (makes.left spared h);
  still_rooted = makes.still_rooted;
  logs = makes.logs;
  touches = makes.touches;
  quiet = makes.quiet;
  quietly = λ q. not_created_quietly name bytes (makes.quietly q);
}

pub made : {E : Type 0} {name under : List ℕ} {is_current : Type 0} {A : Type 0} {file : A} {a b : SeenSystem} → MakesFile {E = E} name a (Ok file) b
    → Honestly a.honest (λ _. under ≡ name) → Honestly a.honest (λ _. is_current)
    → ((spared : Spared) → a.quiet → a.honest spared) → WritesSoFar name [] under is_current a b
made makes named current quiet_is_honest = record {
  honest = makes.honest;
  left = makes.left;
  still_rooted = makes.still_rooted;
  logged = makes.logs;
  touches = makes.touches;
  quiet = makes.quiet;
  quiet_is_honest = quiet_is_honest;
  named = named;
  current = current;
  holds = λ spared h. inl (makes.created spared h);
  quietly = λ q. (makes.quietly q).1;
}

-- the bytes go no further
pub given_up : {A E : Type 0} {name held under bytes : List ℕ} {is_current : Type 0} {a b : SeenSystem} (result : Result A E) → IsErr result
    → WritesSoFar name held under is_current a b → TakesEffect (Writing name bytes) a result b
given_up (Ok _) is_err was = absurd (false≢true is_err)
given_up {held = held} (Err _) is_err was = record {
  honest = was.honest;
  called = λ spared h. write_failed held (was.holds spared h);
  left = λ spared h. left_torn (was.left spared h);
  still_rooted = was.still_rooted;
  logs = λ spared h. inl (was.logged spared h);
  touches = was.touches;
  quiet = was.quiet;
  quietly = λ q. torn_quietly held (was.quietly q);
}

-- the file was synced
pub synced : {A E : Type 0} {name bytes under : List ℕ} {is_current : Type 0} {a b c : SeenSystem} (outcome : Result A E)
    → WritesSoFar name bytes under is_current a b → Looks b c
    → Honestly b.honest (λ spared. is_current → OnOk outcome (KeepsHeld spared under c.world.files c.may_leave))
    → TakesEffect (Writing name bytes) a outcome c
synced {name = name} {bytes = bytes} {a = a} {c = c} outcome was looks kept =
    let holds = λ (spared : Spared) (h : a.honest spared). written_on name bytes (was.holds spared h) (looks.acts spared (was.honest spared h)) in
    record {
      honest = λ spared h. looks.honest spared (was.honest spared h);
      called = λ spared h. write_called name bytes outcome (holds spared h);
      left = λ spared h.
          left_written outcome (write_succeeded (holds spared h)) (rw (was.named spared h) at (kept spared (was.honest spared h) (was.current spared h)))
          (left_torn (left_more (was.left spared h) (looks.left spared (was.honest spared h))));
      still_rooted = λ spared h r. looks.still_rooted spared (was.honest spared h) (was.still_rooted spared h r);
      logs = λ spared h.
          logs_all spared (Writing name bytes) a.world.files c.world.files c.touched outcome
          (λ file on. looks.touches.still file (was.logged spared h file on));
      touches = touched_then was.touches (touched_none looks.touches);
      quiet = λ q. looks.quiet (was.quiet q);
      quietly = λ q. written_quietly name bytes _ outcome (looks.quietly (was.quiet q) ∙ was.quietly q);
    }

-- ---- a piece is appended to the file
module _ {name held under piece : List ℕ} {is_current : Type 0} {a b c : SeenSystem} where
  append_on : {now more : List ℕ} {still : Type 0} (outcome : Result ℕ Error) → WritesSoFar name held under is_current a b
      → AppendsToFile under is_current piece b outcome c → now ≡ under
      → Honestly b.honest (λ _. is_current → still)
      → ((spared : Spared) → Written spared name held a.world b.world → Appended spared name piece b.world outcome c.world
      → Written spared name more a.world c.world)
      → (b.world.files ≡ effect (Writing name held) a.world.files → AppendedQuietly name piece b.world.files outcome c.world.files
      → c.world.files ≡ effect (Writing name more) a.world.files) → WritesSoFar name more now still a c
  append_on outcome was appends same current grown quietly = record {
    honest = λ spared h. appends.honest spared (was.honest spared h);
    left = λ spared h. left_both (was.left spared h) (rw (was.named spared h) at (appends.left spared (was.honest spared h)));
    still_rooted = λ spared h r. appends.still_rooted spared (was.honest spared h) (was.still_rooted spared h r);
    logged = λ spared h file on. appends.touches.still file (was.logged spared h file on);
    touches = touched_then was.touches (touched_none appends.touches);
    quiet = λ q. appends.quiet (was.quiet q);
    quiet_is_honest = was.quiet_is_honest;
    named = λ spared h. same ∙ was.named spared h;
    current = λ spared h. current spared (was.honest spared h) (was.current spared h);
    holds = λ spared h. grown spared (was.holds spared h) (rw (was.named spared h) at (appends.appended spared (was.honest spared h) (was.current spared h)));
    quietly = λ q.
        let h = was.quiet_is_honest all_bases q in
        quietly (was.quietly q) (rw (was.named all_bases h) at (appends.quietly (was.quiet q) (was.current all_bases h)));
  }

  pub appended : {now : List ℕ} {still : Type 0} {n : ℕ} → WritesSoFar name held under is_current a b → AppendsToFile under is_current piece b (Ok n) c
      → now ≡ under → Honestly b.honest (λ _. is_current → still) → WritesSoFar name (held ++ take n piece) now still a c
  appended {n = n} was appends same current =
      let more = λ (had : List ℕ). had ++ take n piece in
      append_on (Ok n) was appends same current (λ spared. written_changed name held more) (grown_quietly name held more a.world.files)

  pub interrupted : {now : List ℕ} {still : Type 0} {error : Error} → WritesSoFar name held under is_current a b
      → AppendsToFile under is_current piece b (Err error) c → error_kind error ≡ Interrupted
      → now ≡ under → Honestly b.honest (λ _. is_current → still) → WritesSoFar name held now still a c
  interrupted {error = error} was appends is same current =
      append_on (Err error) was appends same current
      (λ spared had did. elim did [ inl acts ↦ written_on name held had acts | inr other ↦ absurd (other.0 is) ])
      (λ had did. elim did [ inl none ↦ none ∙ had | inr other ↦ absurd (other.0 is) ])

  pub append_given_up : {A E : Type 0} {bytes : List ℕ} (outcome : Result ℕ Error) (result : Result A E) → IsErr result
      → WritesSoFar name held under is_current a b → AppendsToFile under is_current piece b outcome c → TakesEffect (Writing name bytes) a result c
  append_given_up outcome (Ok _) is_err was appends = absurd (false≢true is_err)
  append_given_up outcome (Err _) is_err was appends = record {
    honest = λ spared h. appends.honest spared (was.honest spared h);
    called = λ spared h.
        append_failed held piece c.world outcome (was.holds spared h)
        (rw (was.named spared h) at (appends.appended spared (was.honest spared h) (was.current spared h)));
    left = λ spared h. left_torn (left_both (was.left spared h) (rw (was.named spared h) at (appends.left spared (was.honest spared h))));
    still_rooted = λ spared h r. appends.still_rooted spared (was.honest spared h) (was.still_rooted spared h r);
    logs = λ spared h. inl (λ file on. appends.touches.still file (was.logged spared h file on));
    touches = touched_then was.touches (touched_none appends.touches);
    quiet = λ q. appends.quiet (was.quiet q);
    quietly = λ q.
        let h = was.quiet_is_honest all_bases q in
        appended_quietly held piece outcome (was.quietly q) (rw (was.named all_bases h) at (appends.quietly (was.quiet q) (was.current all_bases h)));
  }
