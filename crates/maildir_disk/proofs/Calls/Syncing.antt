-- What the folder's calls of its system do, which it makes only where no sync has failed.
use Rattle.std.proofs.Common.{inr, refl, [], Result, Ok, Err, IsErr, IsFalse, OnOk, Vec, String, Global}
use Rattle.std.proofs.lemmas.Bool.{false≢true}
use Rattle.std.specs.Prelude.{is_err}
use Rattle.maildir_run.proofs.Call.Touching.{touched_same}
use Rattle.maildir_disk.proofs.Common.{Call, Sub}
use Rattle.maildir_disk.specs.declared.disk_folder.DiskFolder.{DiskFolder}
use Rattle.maildir_disk.specs.declared.system.System.{Ghosts}
use Rattle.maildir_disk.specs.Private.Effects.{TakesEffect}
use Rattle.maildir_disk.specs.Private.OneMoment.{ReadsAtOnce}
use Rattle.maildir_disk.specs.Seen.{system_of}
use Rattle.maildir_disk.specs.SeenSystem.{Asks, Looks}
use Rattle.maildir_disk.proofs.Left.Lefts.{left_none}

-- where it returned Ok, none has failed
none_of : {A E : Type 0} (outcome : Result A E) {P : Type 0} → OnOk outcome P → IsFalse (is_err outcome) → P
none_of (Ok x) h none = h
none_of (Err e) h none = cc

module _ {S File : Type 0} (f : Ghosts S File) (old : DiskFolder S) where
  -- ---- no sync had failed
  module _ (none : IsFalse old.sync_failed) where
    -- the names of one moment were read
    pub lifted_reads : {E : Type 0} {sub : Sub} {mid : S} {outcome : Result (Vec (String Global) Global) E}
        → ReadsAtOnce sub (f.at old.system) outcome (f.at mid) → ReadsAtOnce sub (system_of f old) outcome (system_of f (record old { system = mid }))
    lifted_reads reads = record {
      looks = record {
        honest = λ spared h _. reads.looks.honest spared (h none);
        acts = λ spared h. reads.looks.acts spared (h none);
        left = λ spared h. reads.looks.left spared (h none);
        still_rooted = λ spared h. reads.looks.still_rooted spared (h none);
        touches = reads.looks.touches;
        quiet = λ q _. reads.looks.quiet (q none);
        quietly = λ q. reads.looks.quietly (q none);
      };
      listed = λ spared h. reads.listed spared (h none);
      exact = λ q. reads.exact (q none);
    }

    -- a call took effect
    pub lifted : {A E : Type 0} {call : Call} {mid : S} {outcome : Result A E}
        → TakesEffect call (f.at old.system) outcome (f.at mid) → TakesEffect call (system_of f old) outcome (system_of f (record old { system = mid }))
    lifted did = record {
      honest = λ spared h _. did.honest spared (h none);
      called = λ spared h. did.called spared (h none);
      left = λ spared h. did.left spared (h none);
      still_rooted = λ spared h. did.still_rooted spared (h none);
      logs = λ spared h. did.logs spared (h none);
      touches = did.touches;
      quiet = λ q _. did.quiet (q none);
      quietly = λ q. did.quietly (q none);
    }

    -- a sync was asked for
    pub asked : {A E : Type 0} {mid : S} (outcome : Result A E) → Asks (f.at old.system) outcome (f.at mid)
        → Looks (system_of f old) (system_of f (record old { system = mid; sync_failed = is_err outcome }))
    asked outcome asks = record {
      honest = λ spared h now. none_of outcome (asks.honest spared (h none)) now;
      acts = λ spared h. asks.acts spared (h none);
      left = λ spared h. asks.left spared (h none);
      still_rooted = λ spared h. asks.still_rooted spared (h none);
      touches = asks.touches;
      quiet = λ q now. none_of outcome (asks.quiet (q none)) now;
      quietly = λ q. asks.quietly (q none);
    }

  -- ---- one had failed, and no call was made
  pub not_called : {A E : Type 0} (call : Call) (result : Result A E) → IsErr result → TakesEffect call (system_of f old) result (system_of f old)
  not_called call (Ok x) is = absurd (false≢true is)
  not_called call (Err e) is = record {
    honest = λ spared h. h;
    called = λ spared h. record { moves = []; left = refl };
    left = λ spared h. left_none;
    still_rooted = λ spared h r. r;
    logs = λ spared h. inr ([], refl);
    touches = touched_same;
    quiet = λ q. q;
    quietly = λ q. ([], tt, refl);
  }
