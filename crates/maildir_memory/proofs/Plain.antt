-- Calls of a Maildir of plain data, and of the machine that has it.
use Rattle.std.proofs.Common.{◌≡◌, ◌⊎◌, ◌++◌, ◌∷◌, ℕ, Bool, List, [], IfOk, IsErr, IsNone, IsSome, IsTrue, Option, Some, None, Result, Ok, Err}
use Rattle.std.proofs.Common.{String, Vec, Global, inl, inr, refl, ap, arith, subst, sym, ◌∙◌}
use Rattle.std.proofs.lemmas.Bool.{false≢true}
use Rattle.std.specs.FinMap.{contains_key, get}
use Rattle.std.specs.declared.io.Error.{Error}
use Rattle.maildir_name.specs.declared.target.Place.{Place}
use Rattle.maildir_run.specs.Calls.{Again, Call, Called, CalledQuietly, IsReady, Placing, Writing, folder_of, names_of}
use Rattle.maildir_run.specs.Cuts.{Follows, Leaves}
use Rattle.maildir_run.specs.Files.{Files, Spared}
use Rattle.maildir_run.specs.Folders.{folder_of_place}
use Rattle.maildir_run.specs.MemFolder.{HasNoScript, IsQuiet, SameScript, Scripted, files_of, lines_of}
use Rattle.maildir_run.specs.Touched.{FileName, TouchedNone, TouchedOnly, Touches, in_tmp}
use Rattle.maildir_run.specs.declared.folder.FolderFault.{FolderFault}
use Rattle.maildir_run.specs.declared.folder.FolderFault.TheVariants as fault
use Rattle.maildir_run.specs.declared.folder.Sub.{Sub}
use Rattle.maildir_run.specs.declared.in_memory.mem_folder.MemFolder.{MemFolder}
use Rattle.maildir_run.proofs.Call.Cuts.{leaves_moves}
use Rattle.maildir_run.proofs.Call.Touching.{logs_all, touched_as, touched_same, touched_then}
use Rattle.maildir_disk.proofs.Left.Lefts.{leaves_none, left_none, on_ok, others_none}
use Rattle.maildir_disk.specs.PowerCuts.{KeepsNames, LeftByOthers}
use Rattle.maildir_disk.specs.Quiet.{AreNames}
use Rattle.maildir_disk.specs.SeenSystem.{AppendsToFile, Asks, Looks, MakesFile, ReadsFolder, SeenSystem, TakesFromTmp}
use Rattle.maildir_disk.specs.World.{ReadsNames}
use Rattle.maildir_disk.specs.declared.faults.OpenFault.TheVariants.{Locked}
use Rattle.maildir_commands.specs.Opening.{OpensMaildir}
use Rattle.maildir_commands.specs.Seen.{OpenMaildir, Untouched}
use Rattle.maildir_commands.proofs.Resting.{untouched_same}
use Rattle.maildir_memory.specs.Logs.{is_logged}
use Rattle.maildir_memory.specs.Plain.{IsQuietly, found_in, held_by, held_plain, kept_in, machine_with, seen_plain, world_of}
use Rattle.maildir_memory.specs.declared.log.Touched.{Touched}
use Rattle.maildir_memory.specs.declared.plain_system.PlainSystem.{PlainSystem}

pub called_leaves : {spared : Spared} {A E : Type 0} {call : Call} {a : Files} (outcome : Result A E) {b : Files} → Called spared call a outcome b
    → Leaves spared call a b
called_leaves {spared} {call = call} {a} (Ok x) {b} h = leaves_moves spared call a b (h.before ++ Again ∷ h.rest) h.left
called_leaves {spared} {call = call} {a} (Err e) {b} h = leaves_moves spared call a b h.moves h.left

-- ---- why calls fail, where nothing is scripted for them
-- there was no memory, or a file that the call moves was not there
pub memory_or_absent : {A : Type 0} (call : Call) (old new : MemFolder) (cause : FolderFault) → Scripted {A = A} call old (Err cause) new → HasNoScript old
    → (cause ≡ fault.OutOfMemory) ⊎ ((cause ≡ fault.Absent) × ¬ IsReady call (files_of old))
memory_or_absent call old new fault.OutOfMemory scripted none = inl refl
memory_or_absent call old new fault.Absent scripted none = inr (refl, (scripted.plain none).1)
memory_or_absent call old new fault.Failed scripted none = absurd (false≢true (scripted.plain none).0)

-- there was no memory, if the call needs nothing else
pub only_memory : {A : Type 0} (call : Call) (old new : MemFolder) (cause : FolderFault) → Scripted {A = A} call old (Err cause) new → HasNoScript old
    → IsReady call (files_of old) → cause ≡ fault.OutOfMemory
only_memory call old new cause scripted none ready =
    elim (memory_or_absent call old new cause scripted none) [ inl memory ↦ memory | inr absent ↦ absurd (absent.1 ready) ]

pub not_there : (held : Option (List ℕ)) → ¬ IsSome held → IsNone held
not_there None missing = refl
not_there (Some _) missing = absurd (missing refl)

-- a script that stays
pub same_script : {folder : MemFolder} → SameScript folder folder
same_script = record { lines = refl; fail_from = refl }

-- ---- calls that change the files
module _ {call : Call} (old : PlainSystem) (folder : MemFolder) (durable : Option MemFolder) (log : Vec Touched Global)
    (kept : kept_in durable (files_of folder) ≡ kept_in old.durable (files_of old.folder)) where
  pub left_by : {spared : Spared} → Leaves spared call (files_of old.folder) (files_of folder)
      → Follows (Leaves spared call) (found_in old) (found_in (record old { folder = folder; durable = durable; log = log }))
  left_by {spared} own left (inl e) = (files_of old.folder, inl refl, subst (Leaves spared call (files_of old.folder)) (sym e) own)
  left_by own left (inr e) = (left, inr (e ∙ kept), leaves_none)

  pub taken : {A E : Type 0} (result : Result A E) → TouchedOnly (Touches call) (is_logged old.log) (is_logged log)
      → ((file : FileName) → Touches call file → is_logged log file) → lines_of folder ≡ lines_of old.folder
      → ((spared : Spared) → Called spared call (files_of old.folder) result (files_of folder))
      → (IsQuiet old.folder → CalledQuietly call (files_of old.folder) result (files_of folder))
      → TakesFromTmp call (seen_plain old) result (seen_plain (record old { folder = folder; durable = durable; log = log }))
  taken result touches logged lines called quietly = record {
    honest = λ spared h. lines ∙ h;
    called = λ spared h. called spared;
    left = λ spared h. left_by (called_leaves result (called spared));
    still_rooted = λ spared h rooted. rooted;
    logs = λ spared h. logs_all spared call (files_of old.folder) (files_of folder) (is_logged log) result logged;
    touches = touches;
    quiet = λ q. lines ∙ q;
    quietly = quietly;
  }

-- there was no memory to log a file, or to keep the files
pub not_taken : {A E : Type 0} {call : Call} (old : PlainSystem) (durable : Option MemFolder) (log : Vec Touched Global) → durable ≡ old.durable
    → (result : Result A E) → IsErr result → TouchedOnly (Touches call) (is_logged old.log) (is_logged log)
    → TakesFromTmp call (seen_plain old) result (seen_plain (record old { durable = durable; log = log }))
not_taken old durable log same (Ok _) is_err touches = absurd (false≢true is_err)
not_taken old durable log same (Err _) is_err touches = record {
  honest = λ spared h. h;
  called = λ spared h. record { moves = []; left = refl };
  left = λ spared h. left_by old old.folder durable log (ap (λ d. kept_in d (files_of old.folder)) same) leaves_none;
  still_rooted = λ spared h rooted. rooted;
  logs = λ spared h. inr ([], refl);
  touches = touches;
  quiet = λ q. q;
  quietly = λ q. ([], tt, refl);
}

-- the files are as they were
module _ (old : PlainSystem) (folder : MemFolder) (durable : Option MemFolder) (log : Vec Touched Global)
    (kept : kept_in durable (files_of folder) ≡ kept_in old.durable (files_of old.folder)) (lines : lines_of folder ≡ lines_of old.folder)
    (same : IsQuiet old.folder → files_of folder ≡ files_of old.folder) where
  pub not_made : {A E : Type 0} {name : List ℕ} (result : Result A E) → IsErr result
      → TouchedOnly (Touches (Writing name [])) (is_logged old.log) (is_logged log)
      → MakesFile name (seen_plain old) result (seen_plain (record old { folder = folder; durable = durable; log = log }))
  not_made (Ok _) is_err touches = absurd (false≢true is_err)
  not_made (Err _) is_err touches = record {
    honest = λ spared h. lines ∙ h;
    created = λ spared h. inl (record { actions = []; files_are = same h });
    left = λ spared h. left_by old folder durable log kept (record { kept = []; are = same h; whole = λ is. tt });
    still_rooted = λ spared h rooted. rooted;
    logs = λ spared h. inr ([], same h);
    touches = touches;
    quiet = λ q. lines ∙ q;
    quietly = λ q. ([], tt, same q);
  }

  pub not_appended : {name bytes : List ℕ} {is_current : Type 0} (result : Result ℕ Error) → IsErr result → log ≡ old.log
      → AppendsToFile name is_current bytes (seen_plain old) result (seen_plain (record old { folder = folder; durable = durable; log = log }))
  not_appended (Ok _) is_err none = absurd (false≢true is_err)
  not_appended (Err _) is_err none = record {
    honest = λ spared h. lines ∙ h;
    appended = λ spared h current. inl (record { actions = []; files_are = same h });
    left = λ spared h. left_by old folder durable log kept (record { kept = []; are = same h; whole = λ is. tt });
    still_rooted = λ spared h rooted. rooted;
    touches = subst (λ log. TouchedNone (is_logged old.log) (is_logged log)) (sym none) touched_same;
    quiet = λ q. lines ∙ q;
    quietly = λ q current. inl (same q);
  }

-- the file is gone, so that no file takes the bytes
pub taken_by_none : (old : PlainSystem) {name bytes : List ℕ} {is_current : Type 0} (result : Result ℕ Error)
    → get (files_of old.folder).tmp name ≡ None → AppendsToFile name is_current bytes (seen_plain old) result (seen_plain old)
taken_by_none old (Ok _) gone = record {
  honest = λ spared h. h;
  appended = λ spared h current. record { before = []; rest = []; left = rw gone refl };
  left = λ spared h. left_none;
  still_rooted = λ spared h rooted. rooted;
  touches = touched_same;
  quiet = λ q. q;
  quietly = λ q current. rw gone refl;
}
taken_by_none old (Err _) gone = not_appended old old.folder old.durable old.log refl refl (λ h. refl) (Err _) refl refl

-- ---- calls that read the names
module _ (old : PlainSystem) (folder : MemFolder) (lines : lines_of folder ≡ lines_of old.folder)
    (same : IsQuiet old.folder → files_of folder ≡ files_of old.folder) where
  still_left : {spared : Spared} → files_of folder ≡ files_of old.folder
      → Follows (LeftByOthers spared) (found_in old) (found_in (record old { folder = folder }))
  still_left alike left (inl e) = (files_of old.folder, inl refl, record { kept = []; are = e ∙ alike; whole = λ is. tt })
  still_left alike left (inr e) = (left, inr (e ∙ ap (kept_in old.durable) alike), others_none)

  pub reads : {E : Type 0} (sub : Sub) (result : Result (Vec (String Global) Global) E)
      → (IsQuiet old.folder → IfOk result (λ names. ReadsNames sub (world_of old) (names_of names) (world_of (record old { folder = folder }))))
      → (IsQuiet old.folder → IfOk result (AreNames sub (files_of old.folder)))
      → ReadsFolder sub (seen_plain old) result (seen_plain (record old { folder = folder }))
  reads sub result names exact = record {
    looks = record {
      honest = λ spared h. lines ∙ h;
      acts = λ spared h. record { actions = []; files_are = same h };
      left = λ spared h. still_left (same h);
      still_rooted = λ spared h rooted. rooted;
      touches = touched_same;
      quiet = λ q. lines ∙ q;
      quietly = same;
    };
    passes = λ spared h. record { acts = record { actions = []; files_are = same h }; later = omega arith; stamp_is = inl refl };
    names = λ spared h. names h;
    exact = exact;
  }

-- ---- the two files of a placement were logged
module _ (place : Place) {name target : List ℕ} {sub : Sub} (a b c : Vec Touched Global) (is : sub ≡ folder_of_place place)
    (second : TouchedOnly (λ file. file ≡ record { sub = sub; name = target }) (is_logged b) (is_logged c)) where
  pub both_touched : TouchedOnly (λ file. file ≡ in_tmp name) (is_logged a) (is_logged b)
      → TouchedOnly (Touches (Placing name place target)) (is_logged a) (is_logged c)
  both_touched first =
      touched_then (touched_as (λ file. inl) first) (touched_as (λ file on. inr (on ∙ ap (λ s. record { sub = s; name = target }) is)) second)

  pub both_logged : is_logged b (in_tmp name) → is_logged c (record { sub = sub; name = target })
      → (file : FileName) → Touches (Placing name place target) file → is_logged c file
  both_logged first then file (inl on) = second.still file (subst (is_logged b) (sym on) first)
  both_logged first then file (inr on) = subst (is_logged c) (ap (λ s. record { sub = s; name = target }) is ∙ sym on) then

-- ---- syncs
module _ (old new : PlainSystem) (rooted : Bool) (is : new ≡ record old { durable = None; is_rooted = rooted }) where
  only_these : (left : Files) → found_in (record old { durable = None; is_rooted = rooted }) left → left ≡ files_of old.folder
  only_these left (inl same) = same
  only_these left (inr same) = same

  pub only_left : (left : Files) → found_in new left → left ≡ files_of old.folder
  only_left left may = only_these left (subst (λ (s : PlainSystem). found_in s left) is may)

  folder : new.folder ≡ old.folder
  folder = ap (λ (s : PlainSystem). s.folder) is

  pub files : files_of new.folder ≡ files_of old.folder
  files = ap files_of folder

  pub synced : (IsTrue old.is_rooted → IsTrue rooted) → Looks (seen_plain old) (seen_plain new)
  synced still = record {
    honest = λ spared h. subst IsQuiet (sym folder) h;
    acts = λ spared h. record { actions = []; files_are = files };
    left = λ spared h left may. (left, inl (only_left left may), others_none);
    still_rooted = λ spared h was. subst (λ (s : PlainSystem). IsTrue s.is_rooted) (sym is) (still was);
    touches = subst (λ (s : PlainSystem). TouchedNone (is_logged old.log) (is_logged s.log)) (sym is) touched_same;
    quiet = λ q. subst IsQuiet (sym folder) q;
    quietly = λ q. files;
  }

  pub names_kept : {spared : Spared} (sub : Sub)
      → Follows (λ before left. KeepsNames spared sub (files_of old.folder) before (files_of new.folder) left) (found_in old) (found_in new)
  names_kept sub left may = (
    left,
    inl (only_left left may),
    record {
      moment = files_of old.folder;
      actions = [];
      moment_is = refl;
      rest = [];
      new_is = files;
      there = left;
      earlier = others_none;
      later = others_none;
      names_are = λ name known. ap (λ s. contains_key (folder_of sub s) name) (only_left left may);
    },
  )

pub asks : {A E : Type 0} {a b : SeenSystem} (result : Result A E) → Looks a b → Asks a result b
asks result looks = record {
  honest = λ spared h. on_ok _ result (looks.honest spared h);
  acts = looks.acts;
  left = looks.left;
  still_rooted = looks.still_rooted;
  touches = looks.touches;
  quiet = λ q. on_ok _ result (looks.quiet q);
  quietly = looks.quietly;
}

-- ---- the machine
abbrev pub open_plain : PlainSystem → OpenMaildir
open_plain system = record { honest = λ _. IsQuiet system.folder; quiet = IsQuiet system.folder; held = held_plain system }

module _ (text path : List ℕ) (was now : Option PlainSystem) (none : now ≡ None) where
  pub takes : (system : PlainSystem) → was ≡ Some system → OpensMaildir open_plain path (Ok system) (machine_with text was) (machine_with text now)
  takes system is = record {
    honest = λ spared h. subst IsQuietly (sym none) tt;
    quiet = λ q. subst IsQuietly (sym none) tt;
    texts = λ spared h. refl;
    refusals = λ spared h other refused. refused;
    is_open = λ spared h. none;
    works = λ spared h. subst IsQuietly is h;
    works_quietly = λ q. subst IsQuietly is q;
    opens = subst (λ found. Untouched (machine_with text was) (held_by found) (held_plain system)) (sym is) untouched_same;
    refused = λ spared h. tt;
    untouched = tt;
    others = λ other apart. absurd (apart tt);
  }

  pub takes_none : was ≡ None → OpensMaildir open_plain path (Err Locked) (machine_with text was) (machine_with text now)
  takes_none is = record {
    honest = λ spared h. subst IsQuietly (sym none) tt;
    quiet = λ q. subst IsQuietly (sym none) tt;
    texts = λ spared h. refl;
    refusals = λ spared h other refused. refused;
    is_open = λ spared h. tt;
    works = λ spared h. tt;
    works_quietly = λ q. tt;
    opens = tt;
    refused = λ spared h. (is, refl);
    untouched = subst (λ found. Untouched (machine_with text was) (held_by was) (held_by found)) (is ∙ sym none) untouched_same;
    others = λ other apart. absurd (apart tt);
  }
