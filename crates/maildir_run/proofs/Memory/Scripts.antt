-- What a script makes of a folder in memory is what other programs and a call may do.
use Rattle.std.proofs.Common.{◌≡◌, ℕ, Bool, true, false, cond, List, [], ◌∷◌, ◌++◌, length, take, drop, get_or, ◌<◌, ◌+◌, ◌==◌, map, Option, IsTrue, ◌&&◌}
use Rattle.std.proofs.Common.{Some, None, Result, Ok, Err, OnErr, string_bytes, ◌/◌}
use Rattle.std.proofs.Common.{append-nil, refl, sym, ap, ◌∙◌, inl, inr, append_assoc, suc, arith, take-append-drop, is_some, bytes_eq}
use Rattle.maildir_run.proofs.Common.{drop-cons, false_from_ne_true, take_more, insert, remove, get, keys, contains_key, Spared, all_bases}
use Rattle.maildir_run.proofs.Common.{base, is_converter_name, is_spared_name, Sub, Tmp, New, Cur, FolderFault, Mode, Plain, FailBefore, FailAfter, Half}
use Rattle.maildir_run.proofs.Common.{Twice, Files, FileMap, Action, ToCur, Reflag, DropTmp, Outside, acted, all_acted, is_name, may_take}
use Rattle.maildir_run.proofs.Common.{AgreeOnSpared, KeepsSpared, Call, Listing, Writing, Move, Other, Again, Torn}
use Rattle.maildir_run.proofs.Common.{after, IsOthers, IsWhole, folder_of, AnyMoves, Lists, Called, linked, with_file}
use Rattle.maildir_run.proofs.Common.{without_file, performed, all_performed, acts_at, may_link, IsCutShort, IsPart, Answers, halved, done}
use Rattle.std.proofs.lemmas.Map.Text.{is_eq-slice_cmp}
use Rattle.maildir_run.specs.declared.in_memory.script.Act.{Act}
use Rattle.maildir_run.specs.declared.in_memory.script.ScriptLine.{ScriptLine}
use Rattle.maildir_run.proofs.Names.Maps.{is_name-true, alike, get_inserted, get_removed, remove-insert}
use Rattle.maildir_run.proofs.Call.Moves.{after-append}
use Rattle.maildir_run.proofs.Call.Outsiders.{outside_reaches}
use Rattle.maildir_run.specs.declared.folder.FolderFault.TheVariants as fault
use Rattle.maildir_run.specs.declared.in_memory.script.Act.TheVariants as act

-- ---- acts are actions of other programs
set_agrees : (spared : Spared) (m : FileMap) (k v : List ℕ) → is_converter_name k ≡ false → AgreeOnSpared spared m (insert m k v)
set_agrees spared m k v off = λ q ours. grind (arith, get_inserted, alike is_converter_name q k)

with_leaves : (spared : Spared) (sub : Sub) (k v : List ℕ) (s : Files) → is_converter_name k ≡ false → KeepsSpared spared s (with_file sub k v s)
with_leaves spared Tmp k v s off = grind (arith, set_agrees)
with_leaves spared New k v s off = grind (arith, set_agrees)
with_leaves spared Cur k v s off = grind (arith, set_agrees)

-- a file is removed whose name is not spared
apart_name : (spared : Spared) (k q : List ℕ) → is_spared_name spared k ≡ false → IsTrue (is_spared_name spared q) → is_name q k ≡ false
apart_name spared k q off on =
    false_from_ne_true (is_name q k) (λ e. let same : is_spared_name spared q ≡ is_spared_name spared k = alike (is_spared_name spared) q k e in cc)

removed_agrees : (spared : Spared) (m : FileMap) (k : List ℕ) → is_spared_name spared k ≡ false → AgreeOnSpared spared m (remove m k)
removed_agrees spared m k off = λ q ours. grind (arith, get_removed, apart_name)

pub without_leaves : (spared : Spared) (sub : Sub) (k : List ℕ) (s : Files) → is_spared_name spared k ≡ false → KeepsSpared spared s (without_file sub k s)
without_leaves spared Tmp k s off = grind (arith, removed_agrees)
without_leaves spared New k s off = grind (arith, removed_agrees)
without_leaves spared Cur k s off = grind (arith, removed_agrees)

foreign_apart : (spared : Spared) (k : List ℕ) → is_converter_name k ≡ false → is_spared_name spared k ≡ false
foreign_apart spared k off = elim (spared.bases (base k)) as (λ t. (t && is_converter_name k) ≡ false) [ true ↦ off | false ↦ refl ]

-- a file is changed where its name is not a converter's
guarded_action : (spared : Spared) (ours : Bool) (s t : Files) → (ours ≡ false → KeepsSpared spared s t)
    → (action : Action) × (cond ours s t ≡ acted spared action s)
guarded_action spared true s t leaves =
    (Outside s, grind (arith, outside_reaches))
guarded_action spared false s t leaves = (Outside t, sym (outside_reaches spared s t (leaves refl)))

pub an_action : (spared : Spared) (a : Act) (s : Files) → (action : Action) × (performed a s ≡ acted spared action s)
an_action spared (act.ToCur name target) s = (ToCur (string_bytes name) (string_bytes target), refl)
an_action spared (act.Reflag name target) s = (Reflag (string_bytes name) (string_bytes target), refl)
an_action spared (act.DropTmp name) s = (DropTmp (string_bytes name), refl)
an_action spared (act.PutOther sub name bytes) s = guarded_action spared _ s _ (with_leaves spared sub (string_bytes name) bytes.items s)
an_action spared (act.DropOther sub name) s =
    guarded_action spared _ s _ (λ off. without_leaves spared sub (string_bytes name) s (foreign_apart spared (string_bytes name) off))

actions : (spared : Spared) (acts : List Act) (s : Files) → (done : List Action) × (all_performed acts s ≡ all_acted spared done s)
actions spared [] s = ([], refl)
actions spared (a ∷ acts) s =
    let first = an_action spared a s in
    let others = actions spared acts (acted spared first.0 s) in
    (first.0 ∷ others.0, ap (all_performed acts) first.1 ∙ others.1)

no_parts : {X : Type 0} (xs : List X) (y : X) (zs : List X) → [] ≡ xs ++ y ∷ zs → ⊥
no_parts [] y zs e = cc
no_parts (x ∷ xs) y zs e = cc

other_name : (m : FileMap) (name target : List ℕ) {bytes : List ℕ} → get m name ≡ Some bytes → contains_key m target ≡ false → is_name name target ≡ false
other_name m name target has free =
    false_from_ne_true (is_name name target)
    (λ e. let there : contains_key m target ≡ true = ap (contains_key m) (sym (is_name-true name target e)) ∙ ap is_some has in cc)

pub free_name : (m : FileMap) (name target : List ℕ) {answer : Bool} → get m target ≡ None
    → answer ≡ bytes_eq (base name) (base target) → answer ≡ may_take m name target
free_name m name target none is = grind (arith, is_eq-slice_cmp)

pub on_err : {A E : Type 0} (result : Result A E) {P : Type 0} → P → OnErr result P
on_err (Ok x) p = tt
on_err (Err e) p = p

-- ---- a list of acts, part by part
pub all_performed-append : (xs ys : List Act) (s : Files) → all_performed (xs ++ ys) s ≡ all_performed ys (all_performed xs s)
all_performed-append [] ys s = refl
all_performed-append (x ∷ xs) ys s = all_performed-append xs ys (performed x s)

pub one_more : (acts : List Act) (i : ℕ) (d : Act) (s now then : Files) → i < length acts
    → now ≡ all_performed (take i acts) s → then ≡ performed (get_or acts i d) now → then ≡ all_performed (take (i + 1) acts) s
one_more acts i d s now then lt is next =
    next ∙ ap (performed (get_or acts i d)) is
    ∙ sym (ap (λ xs. all_performed xs s) (take_more acts i d lt) ∙ all_performed-append (take i acts) (get_or acts i d ∷ []) s)

pub cut_at : {acts : List Act} {i : ℕ} (d : Act) {s now : Files} → i < length acts → now ≡ all_performed (take i acts) s → IsCutShort acts s now
cut_at {acts} {i} d lt is = record {
  made = take i acts;
  refused = get_or acts i d;
  rest = drop (suc i) acts;
  parts = grind (arith, take-append-drop, drop-cons);
  left = is;
}

pub acts_at-append : (call : ℕ) (xs ys : List ScriptLine) → acts_at call (xs ++ ys) ≡ acts_at call xs ++ acts_at call ys
acts_at-append call [] ys = refl
acts_at-append call (x ∷ xs) ys =
    ap (λ l. cond (x.call == call) x.acts.items [] ++ l) (acts_at-append call xs ys) ∙ sym (append_assoc _ (acts_at call xs) (acts_at call ys))

pub lines_more : (call : ℕ) (lines : List ScriptLine) {i : ℕ} (d : ScriptLine) (acts : List Act) (s now then : Files) → i < length lines
    → cond ((get_or lines i d).call == call) (get_or lines i d).acts.items [] ≡ acts → now ≡ all_performed (acts_at call (take i lines)) s
    → then ≡ all_performed acts now → then ≡ all_performed (acts_at call (take (i + 1) lines)) s
lines_more call lines {i} d acts s now then lt here is next =
    next ∙ ap (all_performed acts) is
    ∙ sym (all_performed-append (acts_at call (take i lines)) acts s)
    ∙ ap (λ xs. all_performed (acts_at call (take i lines) ++ xs) s) (sym here ∙ sym (append-nil _))
    ∙ ap (λ xs. all_performed xs s) (sym (ap (acts_at call) (take_more lines i d lt) ∙ acts_at-append call (take i lines) (get_or lines i d ∷ [])))

pub lines_cut : (call : ℕ) (lines : List ScriptLine) {i : ℕ} (d : ScriptLine) {s now then : Files}
    → i < length lines → (get_or lines i d).call == call ≡ true
    → now ≡ all_performed (acts_at call (take i lines)) s → IsCutShort (get_or lines i d).acts.items now then → IsCutShort (acts_at call lines) s then
lines_cut call lines {i} d {s} lt on is cut =
    let line = get_or lines i d in
    let rest = acts_at call (drop (suc i) lines) in
    let before = acts_at call (take i lines) in
    record {
      made = before ++ cut.made;
      refused = cut.refused;
      rest = cut.rest ++ rest;
      parts =
          ap (acts_at call) (sym (take-append-drop i lines) ∙ ap (λ xs. take i lines ++ xs) (drop-cons lines i d lt))
          ∙ acts_at-append call (take i lines) (line ∷ drop (suc i) lines)
          ∙ ap (λ t. before ++ (cond t line.acts.items [] ++ rest)) on
          ∙ ap (λ xs. before ++ (xs ++ rest)) cut.parts
          ∙ simp append_assoc;
      left = grind (arith, all_performed-append);
    }

pub not_cut : {acts : List Act} {s t : Files} → acts ≡ [] → IsCutShort acts s t → ⊥
not_cut none cut = grind (arith, no_parts)

-- ---- a file under another name
reflagged : (s : Files) (name target : List ℕ) {bytes : List ℕ} {there : FileMap} → get s.cur name ≡ Some bytes → may_take s.cur name target ≡ true
    → there ≡ remove (insert s.cur target bytes) name → record s { cur = there } ≡ acted all_bases (Reflag name target) s
reflagged s name target {bytes} has free is = grind (arith, other_name, remove-insert)

-- one that was put under another name, and is then taken from the old one
pub unlinked : (s : Files) {mid : Files} (name target : List ℕ) (o : Option (List ℕ)) → get s.cur name ≡ o → may_link s name target o ≡ true
    → mid ≡ linked s name target o → record mid { cur = remove mid.cur name } ≡ acted all_bases (Reflag name target) s
unlinked s name target o has may is = grind (arith, reflagged)

-- ---- calls
after_others : (spared : Spared) (done : List Action) (s : Files) (call : Call) → after spared s call (map Other done) ≡ all_acted spared done s
after_others spared [] s call = refl
after_others spared (a ∷ more) s call = after_others spared more (acted spared a s) call

others_before : (done : List Action) (ms : List Move) → IsOthers ms → IsOthers (map Other done ++ ms)
others_before [] ms h = h
others_before (a ∷ more) ms h = others_before more ms h

others_whole : (done : List Action) → IsWhole (map Other done)
others_whole [] = tt
others_whole (a ∷ more) = others_whole more

-- acts and then moves are moves
acts_then : (spared : Spared) (acts : List Act) (old : Files) {mid : Files} → mid ≡ all_performed acts old → (call : Call) (ms : List Move)
    → after spared mid call ms ≡ after spared old call (map Other (actions spared acts old).0 ++ ms)
acts_then spared acts old is call ms = grind (arith, after_others, after-append)

pub called_then : (spared : Spared) {A : Type 0} (call : Call) (acts : List Act) (old : Files) {mid : Files} (new : Files) (result : Result A FolderFault)
    → mid ≡ all_performed acts old → Called spared call mid result new → Called spared call old result new
called_then spared call acts old {mid} new (Ok x) is done =
    let others = map Other (actions spared acts old).0 in
    record {
      before = others ++ done.before;
      rest = done.rest;
      others = others_before (actions spared acts old).0 _ done.others;
      ready = grind (arith, acts_then);
      whole = done.whole;
      left = grind (arith, acts_then, append_assoc);
    }
called_then spared call acts old {mid} new (Err f) is done =
    record { moves = map Other (actions spared acts old).0 ++ done.moves; left = grind (arith, acts_then) }

pub cut_fails : {spared : Spared} {call : Call} {acts : List Act} {old new : Files} → IsCutShort acts old new → AnyMoves spared call old new
cut_fails {spared} {call} {old} cut =
    let done = actions spared cut.made old in
    record { moves = map Other done.0; left = grind (arith, after_others) }

pub listed_then : {spared : Spared} {sub : Sub} (acts : List Act) {old new : Files} {names : List (List ℕ)}
    → new ≡ all_performed acts old → names ≡ keys (folder_of sub new) → Lists spared sub old names new
listed_then {spared} {sub} acts {old} {new} {names} is names_are =
    let done = actions spared acts old in
    let others = map Other done.0 in
    let reached : new ≡ after spared old (Listing sub) others = grind (arith, after_others) in
    grind (arith, others_whole, after-append)

halved_moves : (spared : Spared) (call : Call) {s : Files} → (ms : List Move) × (halved call s ≡ after spared s call ms)
halved_moves spared (Writing name bytes) = (Torn (take (length bytes / 2) bytes) ∷ [], refl)
halved_moves spared other = ([], refl)

mode_moves : (spared : Spared) (mode : Mode) (call : Call) (s : Files) → (ms : List Move) × (done mode call s ≡ after spared s call ms)
mode_moves spared Plain call s = (Again ∷ [], refl)
mode_moves spared FailBefore call s = ([], refl)
mode_moves spared FailAfter call s = (Again ∷ [], refl)
mode_moves spared Half call s = halved_moves spared call
mode_moves spared Twice call s = (Again ∷ Again ∷ [], refl)

part_moves : (spared : Spared) {mode : Mode} {call : Call} {old new : Files} → IsPart mode call old new → (ms : List Move) × (new ≡ after spared old call ms)
part_moves spared (inl same) = ([], same)
part_moves spared (inr once) = (Again ∷ [], once.1)

pub answered : (spared : Spared) {A : Type 0} (mode : Mode) (call : Call) (old new : Files) (result : Result A FolderFault)
    → Answers mode call old result new → Called spared call old result new
answered spared Plain call old new (Ok x) a = record { before = []; rest = []; others = tt; ready = a.1; whole = tt; left = a.2 }
answered spared Twice call old new (Ok x) a = record { before = []; rest = Again ∷ []; others = tt; ready = a.1; whole = tt; left = a.2 }
answered spared other call old new (Ok x) a = cc (a.0)
answered spared mode call old new (Err fault.Absent) a = record { moves = []; left = a.2 }
answered spared mode call old new (Err fault.Failed) a = let ms = mode_moves spared mode call old in record { moves = ms.0; left = a.1 ∙ ms.1 }
answered spared mode call old new (Err fault.OutOfMemory) a = let ms = part_moves spared a.1 in record { moves = ms.0; left = ms.1 }

-- ---- placements
