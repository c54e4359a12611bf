-- What a call of the folder did, from what its last system call did.
use Rattle.std.proofs.Common.{◌≡◌, subst, [], ◌∷◌, ◌++◌, List, Result, Ok, Err, IfOk, IsErr, OnErr, Vec, String, Global}
use Rattle.maildir_run.specs.declared.folder.FolderFault.{FolderFault}
use Rattle.maildir_run.specs.Calls.{CountsFailure, GoesUp, IsNotAbsent, MayAnswer}
use Rattle.maildir_run.specs.Seen.{CallOf, ListingOf}
use Rattle.maildir_run.specs.Touched.{FileName, Logs}
use Rattle.maildir_run.proofs.Call.Touching.{logs_all, touched_none}
use Rattle.maildir_disk.proofs.Common.{Files, Call, Called, CalledQuietly, IsFoundWhole, Listed, Listing, Sub, Move, Other, Again, IsWhole, Spared}
use Rattle.maildir_disk.specs.declared.disk_folder.DiskFolder.{DiskFolder}
use Rattle.maildir_disk.specs.declared.system.System.{Ghosts}
use Rattle.maildir_disk.specs.Private.Effects.{Counts, SameCounts, TakesEffect}
use Rattle.maildir_disk.specs.Private.OneMoment.{ReadsAtOnce, ReadsDurably}
use Rattle.maildir_disk.specs.Quiet.{AreNames}
use Rattle.maildir_disk.specs.Seen.{seen_of, system_of}
use Rattle.maildir_disk.specs.SeenSystem.{SeenSystem, TakesFromTmp}
use Rattle.maildir_disk.proofs.Left.Lefts.{left_always, left_answered, left_early}

called_answered : (spared : Spared) {A E F : Type 0} (call : Call) (a b : Files) (outcome : Result A E) (answer : Result A F)
    → IfOk outcome (λ value. answer ≡ Ok value) → OnErr outcome (IsErr answer) → Called spared call a outcome b → Called spared call a answer b
called_answered spared call a b (Ok x) (Ok y) ok err h = h
called_answered spared call a b (Ok x) (Err f) ok err h = cc
called_answered spared call a b (Err e) (Ok y) ok err h = cc
called_answered spared call a b (Err e) (Err f) ok err h = h

quietly_answered : {A E F : Type 0} (call : Call) (a b : Files) (outcome : Result A E) (answer : Result A F)
    → IfOk outcome (λ value. answer ≡ Ok value) → OnErr outcome (IsErr answer) → CalledQuietly call a outcome b → CalledQuietly call a answer b
quietly_answered call a b (Ok x) (Ok y) ok err h = h
quietly_answered call a b (Ok x) (Err f) ok err h = cc
quietly_answered call a b (Err e) (Ok y) ok err h = cc
quietly_answered call a b (Err e) (Err f) ok err h = h

logs_answered : (spared : Spared) {A E F : Type 0} (call : Call) (a b : Files) (touched : FileName → Type 0) (outcome : Result A E) (answer : Result A F)
    → IfOk outcome (λ value. answer ≡ Ok value) → OnErr outcome (IsErr answer) → Logs spared call a outcome b touched → Logs spared call a answer b touched
logs_answered spared call a b touched (Ok x) (Ok y) ok err h = h
logs_answered spared call a b touched (Ok x) (Err f) ok err h = cc
logs_answered spared call a b touched (Err e) (Ok y) ok err h = cc
logs_answered spared call a b touched (Err e) (Err f) ok err h = h

-- ---- a call with this effect, which the folder counted and whose result it returned
module _ {S File : Type 0} (f : Ghosts S File) where
  pub answered : {A E : Type 0} (call : Call) (old before new : DiskFolder S) (outcome : Result A E) {answer result : Result A FolderFault}
      → TakesEffect call (system_of f old) outcome (system_of f before) → SameCounts old before → Counts answer before result new
      → IfOk outcome (λ value. answer ≡ Ok value) → OnErr outcome (IsErr answer) → MayAnswer call answer → CallOf call (seen_of f old) result (seen_of f new)
  answered call old before new outcome {answer} did same counts ok err answers = rw counts.same (record {
    honest = λ spared h. rw (counts.system, counts.sync_failed) (did.honest spared h);
    called = λ spared h. rw counts.system (called_answered spared call _ _ outcome answer ok err (did.called spared h));
    left = λ spared h. rw counts.system (left_answered spared call outcome answer err (did.left spared h));
    still_rooted = λ spared h r. rw counts.system (did.still_rooted spared h r);
    logs = λ spared h. rw counts.system (logs_answered spared call _ _ _ outcome answer ok err (did.logs spared h));
    touches = rw counts.system did.touches;
    quiet = λ q. rw (counts.system, counts.sync_failed) (did.quiet q);
    quietly = λ q. rw counts.system (quietly_answered call _ _ outcome answer ok err (did.quietly q));
    counted = subst (λ n. GoesUp n new.calls) same.calls counts.calls;
    cause = subst (λ n. CountsFailure answer n new.failures) same.failures counts.failures;
    answers = answers;
  })

-- a file of `tmp` was moved or removed
pub taken : {A E : Type 0} {call : Call} {a b : SeenSystem} (outcome : Result A E) → ((spared : Spared) (s : Files) → IsFoundWhole spared call s)
    → TakesFromTmp call a outcome b → TakesEffect call a outcome b
taken outcome whole takes = record {
  honest = takes.honest;
  called = takes.called;
  left = λ spared h. left_always outcome (whole spared) (takes.left spared h);
  still_rooted = takes.still_rooted;
  logs = takes.logs;
  touches = takes.touches;
  quiet = takes.quiet;
  quietly = takes.quietly;
}

-- ---- a listing
pub whole_both : (xs ys : List Move) → IsWhole xs → IsWhole ys → IsWhole (xs ++ ys)
whole_both [] ys h k = k
whole_both (Other a ∷ xs) ys h k = whole_both xs ys h k
whole_both (Again ∷ xs) ys h k = whole_both xs ys h k
whole_both (other ∷ xs) ys h k = absurd h

listed_called : (spared : Spared) {E : Type 0} (sub : Sub) (old : Files) (result : Result (Vec (String Global) Global) E) (new : Files)
    → Listed spared sub old result new → Called spared (Listing sub) old result new
listed_called spared sub old (Ok names) new h = record {
  before = [];
  rest = h.before ++ Again ∷ h.rest;
  others = tt;
  ready = tt;
  whole = whole_both h.before (Again ∷ h.rest) h.whole_before h.whole;
  left = h.left;
}
listed_called spared sub old (Err e) new h = h

same_quietly : {A E : Type 0} (sub : Sub) {old : Files} (result : Result A E) {new : Files} → new ≡ old → CalledQuietly (Listing sub) old result new
same_quietly sub (Ok x) same = (tt, same)
same_quietly sub (Err e) same = ([], tt, same)

listing : {E : Type 0} (sub : Sub) {a b : SeenSystem} (outcome : Result (Vec (String Global) Global) E)
    → ReadsAtOnce sub a outcome b → TakesEffect (Listing sub) a outcome b
listing sub {a} {b} outcome did = record {
  honest = did.looks.honest;
  called = λ spared h. listed_called spared sub _ outcome _ (did.listed spared h);
  left = λ spared h. left_always outcome (λ s. tt) (left_early {call = Listing sub} (did.looks.left spared h));
  still_rooted = did.looks.still_rooted;
  logs = λ spared h. logs_all spared (Listing sub) a.world.files b.world.files b.touched outcome (λ file none. absurd none);
  touches = touched_none did.looks.touches;
  quiet = did.looks.quiet;
  quietly = λ q. same_quietly sub outcome (did.looks.quietly q);
}

listed_answered : (spared : Spared) {E : Type 0} (sub : Sub) (a b : Files) (outcome : Result (Vec (String Global) Global) E)
    (answer : Result (Vec (String Global) Global) FolderFault)
    → IfOk outcome (λ names. answer ≡ Ok names) → OnErr outcome (IsErr answer) → Listed spared sub a outcome b → Listed spared sub a answer b
listed_answered spared sub a b (Ok x) answer ok err h = rw ok h
listed_answered spared sub a b (Err e) (Ok y) ok err h = cc
listed_answered spared sub a b (Err e) (Err f) ok err h = h

names_answered : {E : Type 0} (sub : Sub) (a : Files) (outcome : Result (Vec (String Global) Global) E)
    (answer : Result (Vec (String Global) Global) FolderFault)
    → IfOk outcome (λ names. answer ≡ Ok names) → OnErr outcome (IsErr answer) → IfOk outcome (AreNames sub a) → IfOk answer (AreNames sub a)
names_answered sub a (Ok x) answer ok err h = rw ok h
names_answered sub a (Err e) (Ok y) ok err h = cc
names_answered sub a (Err e) (Err f) ok err h = tt

unlisted_answered : {E : Type 0} (outcome : Result (Vec (String Global) Global) E) (answer : Result (Vec (String Global) Global) FolderFault)
    (P : Vec (String Global) Global → Type 0)
    → IfOk outcome (λ names. answer ≡ Ok names) → OnErr outcome (IsErr answer) → IfOk outcome P → IfOk answer P
unlisted_answered (Ok x) answer P ok err h = rw ok h
unlisted_answered (Err e) (Ok y) P ok err h = cc
unlisted_answered (Err e) (Err f) P ok err h = tt

pub listing_answered : {S File E : Type 0} (f : Ghosts S File) (sub : Sub) (old before new : DiskFolder S)
    (outcome : Result (Vec (String Global) Global) E) {answer result : Result (Vec (String Global) Global) FolderFault}
    → ReadsDurably sub (system_of f old) outcome (system_of f before) → SameCounts old before → Counts answer before result new
    → IfOk outcome (λ names. answer ≡ Ok names) → OnErr outcome (IsErr answer) → IsNotAbsent answer → ListingOf sub (seen_of f old) result (seen_of f new)
listing_answered f sub old before new outcome {answer} did same counts ok err not_absent = record {
  call = answered f (Listing sub) old before new outcome (listing sub outcome did.reads) same counts ok err not_absent;
  listed = λ spared h. rw (counts.same, counts.system) (listed_answered spared sub _ _ outcome answer ok err (did.reads.listed spared h));
  unlisted = λ spared h. rw (counts.same, counts.system) (unlisted_answered outcome answer _ ok err (did.unlisted spared h));
  names = λ q. rw counts.same (names_answered sub _ outcome answer ok err (did.reads.exact q));
}
