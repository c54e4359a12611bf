-- What a call of the folder in memory did that followed its script.
use Rattle.std.proofs.Common.{◌≡◌, ℕ, Option, Result, Ok, Err, IfOk, OnErr, IsErrAnd, IsErrOf, sym, ap, ◌∙◌, inl, inr, arith, refl}
use Rattle.std.proofs.Common.{◌⊎◌, [], String, Vec, Global, IsPermutation, List, subst}
use Rattle.maildir_run.proofs.Common.{New, Cur, Tmp, Lists, held_under, IsPermutation-refl}
use Rattle.maildir_run.specs.Cuts.{Follows, LeavesListed, LeavesOf, LeavesUnlisted}
use Rattle.maildir_run.proofs.Call.ListedNowhere.{listed_new, listed_cur}
use Rattle.maildir_run.proofs.Call.Moves.{both_none}
use Rattle.std.specs.declared.alloc.AllocError.{AllocError}
use Rattle.maildir_run.proofs.Common.{keys, Sub, FolderFault, Mode, Plain, FailBefore, Files, Call, Listing, Spared}
use Rattle.maildir_run.proofs.Common.{Called, CalledQuietly, Listed, MayAnswer, CallOf, ListingOf, folder_of, names_of}
use Rattle.maildir_run.proofs.Common.{IsCutShort, acts_at, Answers}
use Rattle.maildir_run.specs.Calls.{CountsFailure, GoesUp}
use Rattle.maildir_run.proofs.Call.Touching.{logs_all}
use Rattle.maildir_run.specs.declared.folder.FolderFault.TheVariants as fault
use Rattle.maildir_run.specs.declared.in_memory.mem_files.MemFiles.{MemFiles}
use Rattle.maildir_run.specs.declared.in_memory.mem_folder.MemFolder.{MemFolder}
use Rattle.maildir_run.specs.MemFiles.{files_in}
use Rattle.maildir_run.specs.MemFolder.{files_of, all_call_count, failure_count}
use Rattle.maildir_run.specs.MemFolder.{next_acts, next_call, next_files, next_mode}
use Rattle.maildir_run.specs.MemFolder.{IsQuiet, HasNoScript, FollowsScript, Scripted, seen_of}
use Rattle.maildir_run.specs.Private.MemFolder.{BeginsCall}
use Rattle.maildir_run.specs.Script.{mode_of}
use Rattle.maildir_run.proofs.Call.Cuts.{called_left}
use Rattle.maildir_run.proofs.Memory.Scripts.{answered, called_then, cut_fails, listed_then, not_cut}

follows_called : (spared : Spared) {A : Type 0} (call : Call) (old new : MemFolder) (result : Result A FolderFault)
    → FollowsScript call old result new → Called spared call (files_of old) result (files_of new)
follows_called spared call old new result (inl a) =
    called_then spared call (next_acts old) (files_of old) (files_of new) result refl
    (answered spared (next_mode old) call (next_files old) (files_of new) result a)
follows_called spared call old new (Ok x) (inr w) = cc w.0
follows_called spared call old new (Err f) (inr w) = cut_fails w.1

follows_listed : (spared : Spared) (sub : Sub) (old new : MemFolder) (result : Result (Vec (String Global) Global) FolderFault)
    → FollowsScript (Listing sub) old result new
    → IfOk result (λ names. names_of names ≡ keys (folder_of sub (files_of new))) → Listed spared sub (files_of old) result (files_of new)
follows_listed spared sub old new (Ok names) (inl a) is = grind (arith, listed_then)
follows_listed spared sub old new (Ok names) (inr w) is = cc w.0
follows_listed spared sub old new (Err f) follows is = follows_called spared {A = Vec (String Global) Global} _ old new (Err f) follows

-- `Absent` comes from a placement alone
may_answer : {A : Type 0} (mode : Mode) (call : Call) (s t : Files) (result : Result A FolderFault) → Answers mode call s result t → MayAnswer call result
may_answer mode call s t result a = grind arith

follows_may : {A : Type 0} (call : Call) (old new : MemFolder) (result : Result A FolderFault) → FollowsScript call old result new → MayAnswer call result
follows_may call old new result h = grind (arith, may_answer)

-- ---- where the script has no line
-- there is no act that could be refused
never_cut : (m : MemFolder) {s t : Files} → IsQuiet m → IsCutShort (next_acts m) s t → ⊥
never_cut m {s} {t} quiet cut = not_cut (ap (acts_at (next_call m)) quiet) cut

-- and a call is as it is, or fails before it has an effect
no_lines : (fail_from : Option ℕ) (call : ℕ) → (mode_of [] fail_from call ≡ Plain) ⊎ (mode_of [] fail_from call ≡ FailBefore)
no_lines fail_from call = grind arith

follows_quietly : {A : Type 0} (call : Call) (old new : MemFolder) (result : Result A FolderFault) → IsQuiet old
    → FollowsScript call old result new → CalledQuietly call (files_of old) result (files_of new)
follows_quietly call old new result quiet (inl a) = grind arith
follows_quietly call old new result quiet (inr w) = absurd (never_cut old quiet w.1)

-- where nothing is scripted for it, it answers as `Plain` says
unscripted : {A : Type 0} (call : Call) (old new : MemFolder) (result : Result A FolderFault)
    → FollowsScript call old result new → HasNoScript old → Answers Plain call (files_of old) result (files_of new)
unscripted call old new result (inl a) none = grind arith
unscripted call old new result (inr w) none = absurd (never_cut old none.quiet w.1)

-- a fault leaves the files as they were
pub quiet_fault : {A : Type 0} (call : Call) (old new : MemFolder) (result : Result A FolderFault) → IsQuiet old
    → Scripted call old result new → OnErr result (files_of new ≡ files_of old)
quiet_fault call old new (Ok x) quiet scripted = tt
quiet_fault {A} call old new (Err f) quiet scripted = elim scripted.did [
  | inl a ↦ grind arith
  | inr w ↦ absurd (never_cut old quiet w.1)
]

-- ---- a call as that of any folder
call_made : {A : Type 0} (call : Call) (old new : MemFolder) (result : Result A FolderFault) → Scripted call old result new
    → GoesUp (all_call_count old) (all_call_count new) → CountsFailure result (failure_count old) (failure_count new)
    → CallOf call (seen_of old) result (seen_of new)
call_made call old new result scripted counted cause =
    let called = λ (spared : Spared). follows_called spared call old new result scripted.did in
    record {
      honest = λ spared honest. tt;
      called = λ spared honest. called spared;
      left = λ spared honest. called_left spared call result (called spared);
      still_rooted = λ spared honest rooted. tt;
      logs = λ spared honest. logs_all spared call (files_of old) (files_of new) (λ file. Unit {0}) result (λ file touches. tt);
      touches = record { only = λ file now. inr tt; still = λ file was. tt };
      quiet = λ quiet. scripted.script.lines ∙ quiet;
      quietly = grind (arith, follows_quietly);
      counted = counted;
      cause = cause;
      answers = follows_may call old new result scripted.did;
    }

-- a cut leaves what is there, and so what was not shown is gone from it
unlisted_gone : (spared : Spared) (sub : Sub) (s t : Files) (names : List (List ℕ)) → Lists spared sub s names t
    → (before now : Files) → now ≡ t → LeavesUnlisted spared sub names s before now
unlisted_gone spared Tmp s t names h before now e = tt
unlisted_gone spared New s t names h before now e =
    λ b named off. subst (λ (x : Files). held_under b x.new ≡ []) (sym e) (listed_new spared b named s names t h off)
unlisted_gone spared Cur s t names h before now e =
    λ b named off none gone. subst (λ (x : Files). held_under b x.cur ≡ []) (sym e) (both_none _ _ (listed_cur spared b named s names t none h off)).1

listing_left : (spared : Spared) (sub : Sub) (s t : Files) (result : Result (Vec (String Global) Global) FolderFault) {before now : Files → Type 0}
    → ((left : Files) → now left → left ≡ t) → Listed spared sub s result t → Follows (λ was is. LeavesOf spared (Listing sub) was result is) before now
    → IfOk result (λ names. Follows (LeavesListed spared sub (names_of names) s) before now)
listing_left spared sub s t (Ok v) same listed left = λ is may.
    let q = left is may in (q.0, q.1, record { leaves = q.2.0; unlisted = unlisted_gone spared sub s t (names_of v) listed q.0 is (same is may) })
listing_left spared sub s t (Err f) same listed left = tt

names_quietly : (sub : Sub) (s t : Files) (result : Result (Vec (String Global) Global) FolderFault) → CalledQuietly (Listing sub) s result t
    → IfOk result (λ names. names_of names ≡ keys (folder_of sub t)) → IfOk result (λ names. IsPermutation (names_of names) (keys (folder_of sub s)))
names_quietly sub s t (Ok v) h is = rw (is ∙ ap (λ x. keys (folder_of sub x)) h.1) (IsPermutation-refl _)
names_quietly sub s t (Err f) h is = tt

pub listing_made : (sub : Sub) (old new : MemFolder) (result : Result (Vec (String Global) Global) FolderFault)
    → Scripted (Listing sub) old result new → IfOk result (λ names. names_of names ≡ keys (folder_of sub (files_of new)))
    → CallOf (Listing sub) (seen_of old) result (seen_of new) → ListingOf sub (seen_of old) result (seen_of new)
listing_made sub old new result scripted in_order call =
    let listed = λ (spared : Spared). follows_listed spared sub old new result scripted.did in_order in
    record {
      call = call;
      listed = λ spared h. listed spared;
      unlisted = λ spared h. listing_left spared sub _ _ result (λ left is. is) (listed spared) (call.left spared h);
      names = λ quiet. names_quietly sub _ _ result (call.quietly quiet) in_order;
    }

-- ---- at its exits
-- an act found no memory
no_memory : {A : Type 0} (r : Result A FolderFault) → IsErrAnd r (λ e. e ≡ fault.OutOfMemory) → IsErrOf r fault.OutOfMemory
no_memory r is = grind arith

counts_no_failure : {A : Type 0} (r : Result A FolderFault) {old new : ℕ} → IsErrOf r fault.OutOfMemory → new ≡ old → CountsFailure r old new
counts_no_failure r is same = rw is same

module _ {A : Type 0} {call : Call} {old new : MemFolder} {r : Result A FolderFault} {e : AllocError}
    (is : IsErrAnd r (λ e. e ≡ fault.OutOfMemory)) (begun : BeginsCall old (Err e) new) where
  pub cut_scripted : Scripted call old r new
  cut_scripted = grind (arith, unscripted)

  pub cut_made : CallOf call (seen_of old) r (seen_of new)
  cut_made = call_made call old new r cut_scripted begun.counted (counts_no_failure r (no_memory r is) begun.failures)

module _ {A : Type 0} {call : Call} {old mid new : MemFolder} {files : MemFiles} {mode : Mode} {r r' : Result A FolderFault}
    (begun : BeginsCall old (Ok mode) mid) (a : Answers mode call (files_of mid) r (files_in files)) (is : r' ≡ r)
    (rest : new ≡ record mid { files = files; failures = failure_count new }) where
  pub scripted : Scripted call old r' new
  scripted = grind arith

  pub made : CountsFailure r (failure_count mid) (failure_count new) → CallOf call (seen_of old) r' (seen_of new)
  made cause = call_made call old new r' scripted (ap all_call_count rest ∙ begun.counted) (rw (sym is, begun.failures) at cause)
