-- Tasks after one another.
use Rattle.std.proofs.Common.{◌≡◌, ℕ, ◌+◌, ◌<◌, List, [], ◌∷◌, ◌++◌, length, take, drop, get_or, Result, Ok, Err}
use Rattle.std.proofs.Common.{IsPermutation, IfOk, refl, sym, ap, subst, ◌∙◌, inl, inr, arith, length-append, append_assoc}
use Rattle.std.proofs.Common.{Option, Some, None, IsErrAnd, flat_map, take-append-drop, append-nil, Vec, String, Global}
use Rattle.maildir_run.proofs.Common.{keys, take_more, flat_map-append, RunFault, FolderFault, Sub, Call, Called, CalledQuietly, Spared}
use Rattle.maildir_run.proofs.Common.{Listed, Listing, GoesUp, CountsFailure, folder_of, names_of, fault_of, run_answer, capped}
use Rattle.maildir_run.proofs.Common.{CountsFault, HasCallNumber, Follows, LeavesOf, Files, Task, Ask, Do, Way, honestly}
use Rattle.maildir_run.proofs.Common.{OneTouches, Touches, TouchedOnly, call_of}
use Rattle.maildir_run.proofs.Call.Touching.{touched_as, touched_same, touched_then}
use Rattle.maildir_run.specs.Touched.{FileName}
use Rattle.maildir_run.specs.Cuts.{LeavesListed}
use Rattle.maildir_run.specs.Private.Tasks.{jointly}
use Rattle.maildir_run.proofs.Common.{quietly, leaving, AllDone, Stopped, DoneUntil, Performs, Seen, CallOf, ListingOf, Performed, names_in, IsReading}
use Rattle.maildir_run.proofs.Tasks.Faults.{at_reading}
use Rattle.maildir_run.proofs.Call.Cuts.{left_as, left_then}
use Rattle.maildir_run.proofs.Tasks.CallCounts.{one_call, more_calls, no_call}
use Rattle.maildir_run.specs.Files.{Honestly}

-- ---- a way in which nothing need happen
abbrev pub MayStop : {S : Type 0} → Way S → Type 0
MayStop {S} w = (task : Task) (s : S) → w.refused task s s

pub honestly_stops : {spared : Spared} → MayStop (honestly spared)
honestly_stops task s = record { moves = []; left = refl }

pub leaving_stops : {spared : Spared} → MayStop (leaving spared)
leaving_stops task s = inl refl

pub jointly_stops : {spared : Spared} → MayStop (jointly spared)
jointly_stops task s = (record { moves = []; left = refl }, record { kept = []; are = refl; whole = λ is. tt })

-- ---- tasks after one another
stopped_here : {S : Type 0} (w : Way S) → MayStop w → (tasks : List Task) (s : S) → Stopped w tasks s s
stopped_here w still [] s = refl
stopped_here w still (task ∷ tasks) s = inl (still task s)

pub done_then : {S : Type 0} (w : Way S) (xs ys : List Task) (a b c : S) (fault : Option RunFault)
    → AllDone w xs a b → DoneUntil w ys b fault c → DoneUntil w (xs ++ ys) a fault c
done_then w [] ys a b c fault e h = rw e at h
done_then w (x ∷ xs) ys a b c None (mid, one, more) h = (mid, one, done_then w xs ys mid b c None more h)
done_then w (x ∷ xs) ys a b c (Some e) (mid, one, more) h = inr (mid, one, done_then w xs ys mid b c (Some e) more h)

-- all, and then something else is refused
all_stopped : {S : Type 0} (w : Way S) (xs : List Task) (a b : S) → AllDone w xs a b → Stopped w xs a b
all_stopped w [] a b e = e
all_stopped w (x ∷ xs) a b (mid, one, more) = inr (mid, one, all_stopped w xs mid b more)

-- what follows is not begun
pub stopped_before : {S : Type 0} (w : Way S) → MayStop w → (xs ys : List Task) (a b : S) → Stopped w xs a b → Stopped w (xs ++ ys) a b
stopped_before w still [] ys a b e = rw e (stopped_here w still ys a)
stopped_before w still (x ∷ xs) ys a b (inl h) = inl h
stopped_before w still (x ∷ xs) ys a b (inr (mid, one, more)) = inr (mid, one, stopped_before w still xs ys mid b more)

-- ---- files that are touched by tasks after one another
touched_first : (xs ys : List Task) (file : FileName) → OneTouches xs file → OneTouches (xs ++ ys) file
touched_first [] ys file h = absurd h
touched_first (x ∷ xs) ys file (inl h) = inl h
touched_first (x ∷ xs) ys file (inr h) = inr (touched_first xs ys file h)

touched_last : (xs ys : List Task) (file : FileName) → OneTouches ys file → OneTouches (xs ++ ys) file
touched_last [] ys file h = h
touched_last (x ∷ xs) ys file h = inr (touched_last xs ys file h)

touched_both : (xs ys : List Task) {a b c : FileName → Type 0} → TouchedOnly (OneTouches xs) a b → TouchedOnly (OneTouches ys) b c
    → TouchedOnly (OneTouches (xs ++ ys)) a c
touched_both xs ys first then = touched_then (touched_as (touched_first xs ys) first) (touched_as (touched_last xs ys) then)

-- ---- runs after one another
pub ran_none : {s : Seen} {made : ℕ} → Performed [] s s made made None
ran_none {s} {made} = record {
  honest = λ spared h. h;
  done_honestly = λ spared h. refl;
  left = λ spared h new may. (new, may, refl);
  still_rooted = λ spared h r. r;
  touches = touched_same;
  quiet = λ q. q;
  done_quietly = λ q. refl;
  n = 0;
  most = omega arith;
  all = λ e. refl;
  makes = no_call;
  cause = refl;
  call_number = tt;
}

pub ran_then : {xs ys : List Task} {a b c : Seen} {made mid made' : ℕ} {fault : Option RunFault}
    → Performed xs a b made mid None → Performed ys b c mid made' fault → Performed (xs ++ ys) a c made made' fault
ran_then {xs} {ys} {a} {b} {c} {made} {mid} {made'} {fault} first then =
    let one = first.most in
    let two = then.most in
    record {
      honest = λ spared h. then.honest spared (first.honest spared h);
      done_honestly = grind (arith, done_then);
      left = λ spared h.
          left_then _ _ _ a.may_leave b.may_leave c.may_leave (λ x y z. done_then (jointly spared) xs ys (a.files, x) (b.files, y) (c.files, z) fault)
          (first.left spared h) (then.left spared (first.honest spared h));
      still_rooted = grind arith;
      touches = touched_both xs ys first.touches then.touches;
      quiet = λ q. then.quiet (first.quiet q);
      done_quietly = grind (arith, done_then);
      n = first.n + then.n;
      most = omega (arith, length-append xs ys);
      all = grind (arith, length-append);
      makes = more_calls first.makes then.makes;
      cause = rw first.cause at then.cause;
      call_number = then.call_number;
    }

-- what follows is not begun
pub ran_before : {xs : List Task} {a b : Seen} {made made' : ℕ} {fault : RunFault} (ys : List Task)
    → Performed xs a b made made' (Some fault) → Performed (xs ++ ys) a b made made' (Some fault)
ran_before {xs} {a} {b} ys h =
    let most = h.most in
    record {
      honest = h.honest;
      done_honestly = grind (arith, stopped_before);
      left = λ spared q. left_as _ _ a.may_leave b.may_leave
          (λ x y. stopped_before (jointly spared) jointly_stops xs ys (a.files, x) (b.files, y)) (h.left spared q);
      still_rooted = h.still_rooted;
      touches = touched_as (touched_first xs ys) h.touches;
      quiet = h.quiet;
      done_quietly = grind (arith, stopped_before);
      n = h.n;
      most = omega (arith, length-append xs ys);
      all = λ e. cc;
      makes = h.makes;
      cause = h.cause;
      call_number = h.call_number;
    }

-- all, and then the run stops for want of something else
pub ran_stop : {xs : List Task} {a b : Seen} {made made' : ℕ} {fault : RunFault} → IsReading fault
    → Performed xs a b made made' None → Performed xs a b made made' (Some fault)
ran_stop {xs} {a} {b} {made} {made'} reading h = record {
  honest = h.honest;
  done_honestly = grind (arith, all_stopped);
  left = λ spared q. left_as _ _ a.may_leave b.may_leave (λ x y. all_stopped (jointly spared) xs (a.files, x) (b.files, y)) (h.left spared q);
  still_rooted = h.still_rooted;
  touches = h.touches;
  quiet = h.quiet;
  done_quietly = grind (arith, all_stopped);
  n = h.n;
  most = h.most;
  all = λ e. cc;
  makes = h.makes;
  cause = grind arith;
  call_number = grind (arith, at_reading);
}

-- nothing, for want of something else
pub ran_nothing : {fault : RunFault} → IsReading fault → {tasks : List Task} {s : Seen} {made : ℕ} → Performed tasks s s made made (Some fault)
ran_nothing {fault} reading {tasks} {s} {made} = ran_before tasks (ran_stop reading (ran_none))

-- the fault of a refused call, as that of the answer of the function that made it
pub ran_err : {B : Type 0} {xs : List Task} {a b : Seen} {made made' : ℕ} {fault : RunFault} (r : Result B RunFault)
    → IsErrAnd r (λ e. e ≡ fault) → Performed xs a b made made' (Some fault) → Performed xs a b made made' (fault_of r)
ran_err (Ok x) is h = absurd is
ran_err {B} {xs} {a} {b} {made} {made'} (Err e) is h = rw is h

-- ---- one call
run_performs : {S A : Type 0} (w : Way S) (xs : List Task) (old : S) (r : Result A FolderFault) (new : S) (number : ℕ)
    → Performs w xs old r new → Performs w xs old (run_answer number r) new
run_performs w xs old r new number h = grind arith

told_cause : {A : Type 0} (r : Result A FolderFault) (number old new : ℕ) → CountsFailure r old new → CountsFault (run_answer number r) old new
told_cause r number old new h = grind arith

told_number : {A : Type 0} (r : Result A FolderFault) (number : ℕ) → HasCallNumber (fault_of (run_answer number r)) number
told_number r number = grind arith

told_names : (r : Result (Vec (String Global) Global) FolderFault) (number : ℕ) → names_in (run_answer number r) ≡ names_in r
told_names r number = grind arith

ran_one : {A : Type 0} {task : Task} {old new : Seen} {made made' : ℕ} (r : Result A FolderFault) {answer : Result A RunFault} → made' ≡ capped (made + 1)
    → answer ≡ run_answer made' r → Honestly old.honest new.honest
    → Honestly old.honest (λ spared. Performs (honestly spared) (task ∷ []) old.files r new.files)
    → Honestly old.honest (λ spared.
    Follows (λ before now. Performs (jointly spared) (task ∷ []) (old.files, before) r (new.files, now)) old.may_leave new.may_leave)
    → Honestly old.honest (λ _. old.rooted → new.rooted) → TouchedOnly (Touches (call_of task)) old.touched new.touched
    → (old.quiet → new.quiet) → (old.quiet → Performs quietly (task ∷ []) old.files r new.files)
    → GoesUp old.calls new.calls → CountsFailure r old.failures new.failures → Performed (task ∷ []) old new made made' (fault_of answer)
ran_one {task} {old} {new} {made} {made'} r up is honest called left rooted touches quiet alone counted cause =
    subst (λ x. Performed (task ∷ []) old new made made' (fault_of x)) (sym is) (record {
      honest = honest;
      done_honestly = grind arith;
      left = λ spared h. left_as _ _ old.may_leave new.may_leave
          (λ before now. run_performs (jointly spared) (task ∷ []) (old.files, before) r (new.files, now) made') (left spared h);
      still_rooted = rooted;
      touches = touched_as (λ file. inl) touches;
      quiet = quiet;
      done_quietly = grind (arith, run_performs);
      n = 1;
      most = omega arith;
      all = λ e. refl;
      makes = one_call up counted;
      cause = told_cause r made' _ _ cause;
      call_number = told_number r made';
    })

do_honestly : (spared : Spared) {A : Type 0} (call : Call) (old : Files) (r : Result A FolderFault) (new : Files)
    → Called spared call old r new → Performs (honestly spared) (Do call ∷ []) old r new
do_honestly spared call old (Ok v) new h = (new, h, refl)
do_honestly spared call old (Err e) new h = inl h

do_jointly : (spared : Spared) {A : Type 0} (call : Call) (r : Result A FolderFault) (s t old new : Files)
    → Called spared call s r t → LeavesOf spared call old r new → Performs (jointly spared) (Do call ∷ []) (s, old) r (t, new)
do_jointly spared call (Ok v) s t old new h k = ((t, new), (h, k, tt), refl)
do_jointly spared call (Err e) s t old new h k = inl (h, k)

do_quietly : {A : Type 0} (call : Call) (old : Files) (r : Result A FolderFault) (new : Files)
    → CalledQuietly call old r new → Performs quietly (Do call ∷ []) old r new
do_quietly call old (Ok v) new h = (new, h, refl)
do_quietly call old (Err e) new h = inl h

ask_honestly : (spared : Spared) (sub : Sub) (old : Files) (r : Result (Vec (String Global) Global) FolderFault) (new : Files)
    → Listed spared sub old r new → Performs (honestly spared) (Ask sub (names_in r) ∷ []) old r new
ask_honestly spared sub old (Ok v) new h = (new, h, refl)
ask_honestly spared sub old (Err e) new h = inl h

ask_jointly : (spared : Spared) (sub : Sub) (r : Result (Vec (String Global) Global) FolderFault) (s t : Files) (before now : Files → Type 0)
    → Listed spared sub s r t → Follows (λ was is. LeavesOf spared (Listing sub) was r is) before now
    → IfOk r (λ names. Follows (LeavesListed spared sub (names_of names) s) before now)
    → Follows (λ was is. Performs (jointly spared) (Ask sub (names_in r) ∷ []) (s, was) r (t, is)) before now
ask_jointly spared sub (Ok v) s t before now h left listed is may =
    let q = listed is may in (q.0, q.1, ((t, is), (h, (q.2.leaves, tt), q.2.unlisted), refl))
ask_jointly spared sub (Err e) s t before now h left listed is may = let q = left is may in (q.0, q.1, inl (h, q.2))

ask_quietly : (sub : Sub) (old : Files) (r : Result (Vec (String Global) Global) FolderFault) (new : Files) → CalledQuietly (Listing sub) old r new
    → IfOk r (λ v. IsPermutation (names_of v) (keys (folder_of sub old))) → Performs quietly (Ask sub (names_in r) ∷ []) old r new
ask_quietly sub old (Ok v) new h names = (new, (h.1, names), refl)
ask_quietly sub old (Err e) new h names = inl h

-- a write, a placement or a removal
pub ran_do : {A : Type 0} {call : Call} {old new : Seen} {made made' : ℕ} (r : Result A FolderFault) (answer : Result A RunFault)
    → made' ≡ capped (made + 1) → answer ≡ run_answer made' r → CallOf call old r new → Performed (Do call ∷ []) old new made made' (fault_of answer)
ran_do {call = call} {old} {new} r answer up is did =
    ran_one r up is did.honest (λ spared h. do_honestly spared call _ r _ (did.called spared h))
    (λ spared h.
    left_as _ _ old.may_leave new.may_leave (λ x y. do_jointly spared call r old.files new.files x y (did.called spared h)) (did.left spared h))
    did.still_rooted did.touches did.quiet (λ q. do_quietly call _ r _ (did.quietly q)) did.counted did.cause

-- a listing
pub ran_ask : {sub : Sub} {old new : Seen} {made made' : ℕ} (r : Result (Vec (String Global) Global) FolderFault) {answer : Result (Vec (String Global) Global)
    RunFault} → made' ≡ capped (made + 1) → answer ≡ run_answer made' r → ListingOf sub old r new
    → Performed (Ask sub (names_in answer) ∷ []) old new made made' (fault_of answer)
ran_ask {sub} {old} {new} {made} {made'} r {answer} up is did =
    let call = did.call in
    rw (ap names_in is ∙ told_names r made') (ran_one r up is call.honest
    (λ spared h. ask_honestly spared sub _ r _ (did.listed spared h))
    (λ spared h.
    ask_jointly spared sub r old.files new.files old.may_leave new.may_leave (did.listed spared h) (call.left spared h) (did.unlisted spared h))
    call.still_rooted call.touches call.quiet (λ q. ask_quietly sub _ r _ (call.quietly q) (did.names q)) call.counted call.cause)

-- one more step of a plan, which has these tasks
module _ {X : Type 0} (f : X → List Task) (xs : List X) (i : ℕ) (x : X) (h : i < length xs)
    (is : x ≡ get_or xs i x) (ys : List Task) (tasks_are : f x ≡ ys) where
  pub next_step : flat_map f (take (i + 1) xs) ≡ flat_map f (take i xs) ++ ys
  next_step =
      ap (flat_map f) (take_more xs i x h) ∙ flat_map-append f (take i xs) (get_or xs i x ∷ [])
      ∙ ap (λ y. flat_map f (take i xs) ++ (f y ++ [])) (sym is) ∙ ap (λ ts. flat_map f (take i xs) ++ ts) (append-nil (f x) ∙ tasks_are)

  pub other_steps : flat_map f xs ≡ flat_map f (take i xs) ++ (ys ++ flat_map f (drop (i + 1) xs))
  other_steps =
      ap (flat_map f) (sym (take-append-drop (i + 1) xs)) ∙ flat_map-append f (take (i + 1) xs) (drop (i + 1) xs)
      ∙ ap (λ ts. ts ++ flat_map f (drop (i + 1) xs)) next_step ∙ append_assoc (flat_map f (take i xs)) ys (flat_map f (drop (i + 1) xs))

  pub next_count : (n : ℕ) → n ≡ length (flat_map f (take i xs)) → n + length ys ≡ length (flat_map f (take (i + 1) xs))
  next_count n e = omega (arith, e, ap length next_step, length-append (flat_map f (take i xs)) ys)
