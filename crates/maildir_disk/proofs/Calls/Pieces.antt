-- A write that appends in several steps, between which other programs act, is one write at the moment when its file was made.
use Rattle.std.proofs.Common.{◌≡◌, ◌⊎◌, inl, inr, ℕ, Bool, true, false, cond, not, List, [], ◌∷◌, ◌++◌, map, Option, Some, None, refl, sym, ◌∙◌, ap}
use Rattle.std.proofs.Common.{Result, Ok, Err, take, arith, rules}
use Rattle.maildir_disk.proofs.Common.{Error, get, insert, remove, get-insert, get-remove, same_map, cases_Bool, false_from_ne_true, is_converter_name, Files}
use Rattle.maildir_disk.proofs.Common.{FileMap, is_name, KeepsSpared, Action, ToCur, Reflag, DropTmp, Outside, outsiders_of, Spared, is_spared_name}
use Rattle.maildir_disk.proofs.Common.{acted, all_acted, Call, Writing, Other, Again, Torn, after, effect, IsOthers, Succeeded, AnyMoves, Called, total, same}
use Rattle.maildir_disk.proofs.Common.{alike, is_name-true, get-insert_same, get-outsiders_of, World, Acts, Comes, rewritten, changed, Appended}
use Rattle.maildir_disk.proofs.Common.{Written}
use Rattle.maildir_run.proofs.Call.Outsiders.{outside_reaches, get-outsiders_other}
use Rattle.maildir_run.proofs.Call.Moves.{after-append}
use Rattle.maildir_disk.proofs.Calls.Passing.{all_acted-append, after-others, others_whole, acts_on, acts_failed}

-- ---- a change of one file, name by name
abbrev mapped : Bool → (List ℕ → List ℕ) → Option (List ℕ) → Option (List ℕ)
mapped true change None = None
mapped true change (Some held) = Some (change held)
mapped false change o = o

not_there : {here : Bool} (change : List ℕ → List ℕ) {o : Option (List ℕ)} → (here ≡ true → o ≡ None) → o ≡ mapped here change o
not_there {here = true} change none = grind arith
not_there change none = refl

there : {here : Bool} (change : List ℕ → List ℕ) {held : List ℕ} {o : Option (List ℕ)}
    → (here ≡ true → o ≡ Some held) → cond here (Some (change held)) o ≡ mapped here change o
there {here = true} change some = grind arith
there change some = refl

get-rewritten : (m : FileMap) (name : List ℕ) (change : List ℕ → List ℕ) (q : List ℕ)
    → get (rewritten m name change (get m name)) q ≡ mapped (is_name q name) change (get m q)
get-rewritten m name change q = grind (arith, not_there, is_name-true, get-insert, total, there)

-- ---- `tmp` after an action
abbrev acted_on : (spared : Spared) → Action → FileMap → FileMap
acted_on spared (ToCur _ _) m = m
acted_on spared (Reflag _ _) m = m
acted_on spared (DropTmp name) m = cond (is_converter_name name) (remove m name) m
acted_on spared (Outside files) m = outsiders_of spared m files.tmp

-- two names are distinct if one passes a test and the other does not
apart : (p : List ℕ → Bool) (k q : List ℕ) → p k ≡ false → p q ≡ true → is_name q k ≡ false
apart p k q off on = false_from_ne_true (is_name q k) (λ e. let same_test : p q ≡ p k = alike p q k e in cc)

acted_apart : (spared : Spared) (a : Action) (s : Files) (m : FileMap)
    → acted spared a (record s { tmp = m }) ≡ record (acted spared a s) { tmp = acted_on spared a m }
acted_apart spared (ToCur name target) s m = grind arith
acted_apart spared (Reflag name target) s m = grind arith
acted_apart spared (DropTmp name) s m = grind arith
acted_apart spared (Outside files) s m = refl

-- ---- a change of a file whose name is spared and an action, in either order
both : (here gone : Bool) (change : List ℕ → List ℕ) (o : Option (List ℕ)) → mapped here change (cond gone None o) ≡ cond gone None (mapped here change o)
both true true change o = refl
both false true change o = refl
both here false change o = refl

change_then_remove : (m : FileMap) (name other : List ℕ) (change : List ℕ → List ℕ)
    → rewritten (remove m other) name change (get (remove m other) name) ≡ remove (rewritten m name change (get m name)) other
change_then_remove m name other change =
    same_map total same _ _ (λ q.
    get-rewritten (remove m other) name change q
    ∙ ap (mapped (is_name q name) change) (get-remove total m other q)
    ∙ both (is_name q name) (is_name q other) change (get m q)
    ∙ ap (cond (is_name q other) None) (sym (get-rewritten m name change q))
    ∙ sym (get-remove total (rewritten m name change (get m name)) other q))

change_then_outside : (spared : Spared) (m files : FileMap) (name : List ℕ) (change : List ℕ → List ℕ) → is_spared_name spared name ≡ true
    → rewritten (outsiders_of spared m files) name change (get (outsiders_of spared m files) name) ≡ outsiders_of spared (rewritten m name change (get m name))
    files
change_then_outside spared m files name change ours =
    let new = rewritten m name change (get m name) in
    same_map total same _ _ (λ q.
    get-rewritten (outsiders_of spared m files) name change q
    ∙ elim (cases_Bool (is_spared_name spared q)) [
      | inl on ↦
          ap (mapped (is_name q name) change) (get-outsiders_of spared m files q on) ∙ sym (get-rewritten m name change q) ∙ sym
          (get-outsiders_of spared new files q on)
      | inr off ↦ ap (λ b. mapped b change (get (outsiders_of spared m files) q)) (apart (λ n. not (is_spared_name spared n)) name q (ap not ours) (ap not off))
          ∙ get-outsiders_other spared m files q off ∙ sym (get-outsiders_other spared new files q off)
    ])

change_then_act : (spared : Spared) (a : Action) (m : FileMap) (name : List ℕ) (change : List ℕ → List ℕ) → is_spared_name spared name ≡ true
    → rewritten (acted_on spared a m) name change (get (acted_on spared a m) name) ≡ acted_on spared a (rewritten m name change (get m name))
change_then_act spared (ToCur from to) m name change ours = refl
change_then_act spared (Reflag from to) m name change ours = refl
change_then_act spared (DropTmp other) m name change ours = search (rules, change_then_remove)
change_then_act spared (Outside files) m name change ours = change_then_outside spared m files.tmp name change ours

acted_then_changed : (spared : Spared) (a : Action) (name : List ℕ) (change : List ℕ → List ℕ) (s : Files)
    → is_spared_name spared name ≡ true → changed name change (acted spared a s) ≡ acted spared a (changed name change s)
acted_then_changed spared a name change s ours =
    grind (
      arith,
      acted_apart spared a s s.tmp,
      change_then_act spared a s.tmp name change ours,
      acted_apart spared a s
          (rewritten s.tmp name change (get s.tmp name)),
    )

all_acted_then_changed : (spared : Spared) (xs : List Action) (name : List ℕ) (change : List ℕ → List ℕ) (s : Files)
    → is_spared_name spared name ≡ true → changed name change (all_acted spared xs s) ≡ all_acted spared xs (changed name change s)
all_acted_then_changed spared [] name change s ours = refl
all_acted_then_changed spared (a ∷ xs) name change s ours =
    grind (arith, all_acted_then_changed spared xs name change (acted spared a s) ours, acted_then_changed)

-- two writes of one name
pub again : {X : Type 0} (here : Bool) (x y : Option X) (z : Option X) → cond here x (cond here y z) ≡ cond here x z
again true x y z = refl
again false x y z = refl

pub insert_again : (m : FileMap) (name a b : List ℕ) → insert (insert m name a) name b ≡ insert m name b
insert_again m name a b =
    same_map total same _ _ (λ q.
    get-insert total (insert m name a) name b q
    ∙ ap (cond (is_name q name) (Some b)) (get-insert total m name a q)
    ∙ again (is_name q name) (Some b) (Some a) (get m q)
    ∙ sym (get-insert total m name b q))

pub changed_again : (name held : List ℕ) (change : List ℕ → List ℕ) (s : Files)
    → changed name change (effect (Writing name held) s) ≡ effect (Writing name (change held)) s
changed_again name held change s = grind (arith, get-insert_same, insert_again)

-- ---- under a name that is not spared each step of a write is an action of another program
as_action : {spared : Spared} {s t : Files} → KeepsSpared spared s t → t ≡ acted spared (Outside t) s
as_action {spared} {s} {t} leaves = sym (outside_reaches spared s t leaves)

writing_leaves : {spared : Spared} (name bytes : List ℕ) {s : Files} → is_spared_name spared name ≡ false → KeepsSpared spared s (effect (Writing name bytes) s)
writing_leaves {spared} name bytes {s} theirs = record {
  tmp_alike = λ q ours. get-insert total s.tmp name bytes q ∙ ap (λ b. cond b (Some bytes) (get s.tmp q)) (apart (is_spared_name spared) name q theirs ours);
  new_alike = λ q ours. refl;
  cur_alike = λ q ours. refl;
}

changed_leaves : {spared : Spared} (name : List ℕ) (change : List ℕ → List ℕ) {s : Files} → is_spared_name spared name ≡ false
    → KeepsSpared spared s (changed name change s)
changed_leaves {spared} name change {s} theirs = record {
  tmp_alike = λ q ours. get-rewritten s.tmp name change q ∙ ap (λ b. mapped b change (get s.tmp q)) (apart (is_spared_name spared) name q theirs ours);
  new_alike = λ q ours. refl;
  cur_alike = λ q ours. refl;
}

-- another program can undo a write to such a name
undone : {spared : Spared} (name bytes : List ℕ) {s : Files} → is_spared_name spared name ≡ false → KeepsSpared spared (effect (Writing name bytes) s) s
undone {spared} name bytes {s} theirs = grind (arith, writing_leaves {spared = spared} name bytes {s = s} theirs)

comes_acts : {spared : Spared} {step : Files → Files} {a b : World} → ((s : Files) → KeepsSpared spared s (step s)) → Comes spared step a b → Acts spared a b
comes_acts {spared} {step} {a} leaves comes =
    let s = all_acted spared comes.before a.files in
    record {
      actions = comes.before ++ Outside (step s) ∷ comes.rest;
      files_are =
          comes.left ∙ (ap (all_acted spared comes.rest) (as_action (leaves s)) ∙ sym
          (all_acted-append spared comes.before (Outside (step s) ∷ comes.rest) a.files));
    }

-- ---- a write, step by step
comes_on : {spared : Spared} {step : Files → Files} {a b c : World} → Comes spared step a b → Acts spared b c → Comes spared step a c
comes_on {spared} comes acts = record {
  before = comes.before;
  rest = comes.rest ++ acts.actions;
  left = acts.files_are ∙ (ap (all_acted spared acts.actions) comes.left ∙ sym (all_acted-append spared comes.rest acts.actions _));
}

pub written_on : {spared : Spared} (name held : List ℕ) {a b c : World} → Written spared name held a b → Acts spared b c → Written spared name held a c
written_on name held (inl comes) acts = inl (comes_on comes acts)
written_on name held (inr other) acts = inr (other.0, acts_on other.1 acts)

grown : {spared : Spared} (name held : List ℕ) (change : List ℕ → List ℕ) {a b c : World} → is_spared_name spared name ≡ true
    → Comes spared (effect (Writing name held)) a b → Comes spared (changed name change) b c → Comes spared (effect (Writing name (change held))) a c
grown {spared} name held change {a} {b} ours first then =
    let s = all_acted spared first.before a.files in
    let between = first.rest ++ then.before in
    let at : all_acted spared then.before b.files ≡ all_acted spared between (effect (Writing name held) s) =
    ap (all_acted spared then.before) first.left ∙ sym (all_acted-append spared first.rest then.before _) in
    record {
      before = first.before;
      rest = between ++ then.rest;
      left = then.left
          ∙ (ap (λ t. all_acted spared then.rest (changed name change t)) at
          ∙ (ap (all_acted spared then.rest)
          (all_acted_then_changed spared between name change (effect (Writing name held) s) ours ∙ ap (all_acted spared between)
          (changed_again name held change s))
          ∙ sym (all_acted-append spared between then.rest _)));
    }

pub written_changed : {spared : Spared} (name held : List ℕ) (change : List ℕ → List ℕ) {a b c : World}
    → Written spared name held a b → Comes spared (changed name change) b c → Written spared name (change held) a c
written_changed name held change (inr other) then = inr (other.0, acts_on other.1 (comes_acts (λ s. changed_leaves name change other.0) then))
written_changed {spared} name held change (inl first) then =
    elim (cases_Bool (is_spared_name spared name)) [
      | inl ours ↦ inl (grown name held change ours first then)
      | inr theirs ↦ inr (theirs, acts_on (comes_acts (λ s. writing_leaves name held theirs) first) (comes_acts (λ s. changed_leaves name change theirs) then))
    ]

-- ---- a write as a call of the folder
others_only : (xs : List Action) → IsOthers (map Other xs)
others_only [] = tt
others_only (a ∷ xs) = others_only xs

with_effect : (spared : Spared) (call : Call) (xs ys : List Action) (s : Files)
    → after spared s call (map Other xs ++ Again ∷ map Other ys) ≡ all_acted spared ys (effect call (all_acted spared xs s))
with_effect spared call xs ys s = grind (arith, after-append, after-others)

pub write_succeeded : {spared : Spared} {name bytes : List ℕ} {a b : World} → Written spared name bytes a b
    → Succeeded spared (Writing name bytes) a.files b.files
write_succeeded {spared} {name} {bytes} {a} (inl comes) = record {
  before = map Other comes.before;
  rest = map Other comes.rest;
  others = others_only comes.before;
  ready = tt;
  whole = others_whole comes.rest;
  left = comes.left ∙ sym (with_effect spared (Writing name bytes) comes.before comes.rest a.files);
}
write_succeeded {spared} {name} {bytes} {a} {b} (inr other) =
    let last = Outside b.files ∷ [] in
    record {
      before = map Other other.1.actions;
      rest = map Other last;
      others = others_only other.1.actions;
      ready = tt;
      whole = tt;
      left = sym (with_effect spared (Writing name bytes) other.1.actions last a.files
          ∙ (ap (λ t. acted spared (Outside b.files) (effect (Writing name bytes) t)) (sym other.1.files_are)
          ∙ outside_reaches spared _ b.files (undone name bytes other.0)));
    }

with_torn : (spared : Spared) (name whole bytes : List ℕ) (xs ys : List Action) (s : Files)
    → after spared s (Writing name whole) (map Other xs ++ Torn bytes ∷ map Other ys) ≡ all_acted spared ys
    (effect (Writing name bytes) (all_acted spared xs s))
with_torn spared name whole bytes xs ys s = grind (arith, after-append, after-others)

pub write_failed : {spared : Spared} {name : List ℕ} (held : List ℕ) {bytes : List ℕ} {a b : World} → Written spared name held a b
    → AnyMoves spared (Writing name bytes) a.files b.files
write_failed {spared} {name} held {bytes} {a} (inl comes) = grind (arith, with_torn spared name bytes held comes.before comes.rest a.files)
write_failed held (inr other) = acts_failed other.1

pub write_called : {spared : Spared} {A E : Type 0} (name bytes : List ℕ) {a b : World} (outcome : Result A E)
    → Written spared name bytes a b → Called spared (Writing name bytes) a.files outcome b.files
write_called name bytes (Ok _) written = write_succeeded written
write_called name bytes (Err _) written = write_failed bytes written

-- a create that failed
pub not_created : {spared : Spared} (name bytes : List ℕ) {a b : World} → Acts spared a b ⊎ Comes spared (effect (Writing name [])) a b
    → AnyMoves spared (Writing name bytes) a.files b.files
not_created name bytes (inl acts) = acts_failed acts
not_created name bytes (inr comes) = write_failed [] (inl comes)

-- what an append leaves, whether it succeeded or failed
pub written_appended : {spared : Spared} (name held piece : List ℕ) {a b c : World} (outcome : Result ℕ Error)
    → Written spared name held a b → Appended spared name piece b outcome c → (left : List ℕ) × Written spared name left a c
written_appended name held piece (Ok n) written comes = (held ++ take n piece, written_changed name held (λ had. had ++ take n piece) written comes)
written_appended name held piece (Err error) written (inl acts) = (held, written_on name held written acts)
written_appended name held piece (Err error) written (inr other) = (other.1, written_changed name held (λ _. other.1) written other.2)

pub append_failed : {spared : Spared} {name : List ℕ} (held piece : List ℕ) {bytes : List ℕ} {a b : World} (c : World) (outcome : Result ℕ Error)
    → Written spared name held a b → Appended spared name piece b outcome c → AnyMoves spared (Writing name bytes) a.files c.files
append_failed {name} held piece c outcome written appended =
    let left = written_appended name held piece outcome written appended in
    write_failed left.0 left.1
