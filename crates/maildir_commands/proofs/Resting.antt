-- A Maildir that rests, or in which no other program acts.
use Rattle.std.proofs.Common.{[], ◌∷◌, ◌++◌, ◌≡◌, ℕ, List, Ok, refl, sym, ap, subst, ◌∙◌}
use Rattle.maildir_commands.proofs.Common.{Action, AreAt, ClosesMaildir, Files, HeldMaildir, KeepsForeign, OpenMaildir, OpensMaildir, OpensSources, Rests}
use Rattle.maildir_commands.proofs.Common.{SeenMachine, Untouched, acted, all_acted, Spared}
use Rattle.maildir_run.proofs.Call.Touching.{touched_same, touched_then}
use Rattle.maildir_run.proofs.Tasks.QuietRuns.{others_same}
use Rattle.maildir_disk.proofs.Calls.Passing.{all_acted-append}
use Rattle.maildir_disk.proofs.Left.Lefts.{left_by_no_others, left_by_others_then}
use Rattle.maildir_run.specs.Files.{Honestly}

pub rest_same : {spared : Spared} {maildir : HeldMaildir} → Rests spared maildir maildir
rest_same = record { actions = []; files_are = refl; left = left_by_no_others; still_rooted = λ h. h; touches = touched_same }

-- the same Maildir
pub same_at : {spared : Spared} {maildir : HeldMaildir} → AreAt spared maildir maildir
same_at = (rest_same, rest_same)

pub rest_then : {spared : Spared} {a b c : HeldMaildir} → Rests spared a b → Rests spared b c → Rests spared a c
rest_then {spared} {a} first then = record {
  actions = first.actions ++ then.actions;
  files_are = then.files_are ∙ (ap (all_acted spared then.actions) first.files_are ∙ sym (all_acted-append spared first.actions then.actions a.files));
  left = left_by_others_then first.left then.left;
  still_rooted = λ h. then.still_rooted (first.still_rooted h);
  touches = touched_then first.touches then.touches;
}

-- the system of calls of a folder is that which was opened, and which is closed
module _ {S : Type 0} (opened : S → OpenMaildir) {word : List ℕ} {old new : SeenMachine} {system taken : S} where
  pub folder_opened : system ≡ taken → OpensMaildir opened word (Ok taken) old new → OpensMaildir opened word (Ok system) old new
  folder_opened same = subst (λ s. OpensMaildir opened word (Ok s) old new) (sym same)

  pub folder_closed : taken ≡ system → ClosesMaildir word (opened taken) old new → ClosesMaildir word (opened system) old new
  folder_closed same = subst (λ s. ClosesMaildir word (opened s) old new) same

-- ---- a Maildir to which nothing is done here
pub untouched_same : {machine : SeenMachine} {maildir : HeldMaildir} → Untouched machine maildir maildir
untouched_same = record { rests = λ spared h. rest_same; quietly = λ q. refl }

-- The machine still does as assumed.
pub record StillDoes (old new : SeenMachine) : Type 0 where
  pub honest : Honestly old.honest new.honest
  pub quiet : old.quiet → new.quiet

pub untouched_then : {one other : SeenMachine} → StillDoes one other → {a b c : HeldMaildir} → Untouched one a b → Untouched other b c → Untouched one a c
untouched_then still first then = record {
  rests = λ spared h. rest_then (first.rests spared h) (then.rests spared (still.honest spared h));
  quietly = λ q. then.quietly (still.quiet q) ∙ first.quietly q;
}

pub untouched_foreign : {machine : SeenMachine} {old new : HeldMaildir} → Untouched machine old new → machine.quiet → KeepsForeign old.files new.files
untouched_foreign {old = old} untouched q = subst (KeepsForeign old.files) (sym (untouched.quietly q)) (others_same old.files)

-- it was opened from these files and closed with those
pub foreign_within : {old ready work new : Files} → ready ≡ old → KeepsForeign ready work → new ≡ work → KeepsForeign old new
foreign_within {ready} {new} opens keeps closes = subst (λ s. KeepsForeign s new) opens (subst (KeepsForeign ready) (sym closes) keeps)

-- ---- sources are opened
pub opens_none : {machine : SeenMachine} → OpensSources machine machine
opens_none = record {
  honest = λ spared h. h;
  quiet = λ q. q;
  texts = λ spared h. refl;
  refusals = λ spared h word refuses. refuses;
  maildirs = λ spared h word fault refuses. refuses;
  still_open = λ spared h word is. is;
  untouched = λ word. untouched_same;
}

pub still_opening : {old new : SeenMachine} → OpensSources old new → StillDoes old new
still_opening opens = record { honest = opens.honest; quiet = opens.quiet }

pub opens_then : {a b c : SeenMachine} → OpensSources a b → OpensSources b c → OpensSources a c
opens_then first then = record {
  honest = λ spared h. then.honest spared (first.honest spared h);
  quiet = λ q. then.quiet (first.quiet q);
  texts = λ spared h. then.texts spared (first.honest spared h) ∙ first.texts spared h;
  refusals = λ spared h word refuses. first.refusals spared h word (then.refusals spared (first.honest spared h) word refuses);
  maildirs = λ spared h word fault refuses. first.maildirs spared h word fault (then.maildirs spared (first.honest spared h) word fault refuses);
  still_open = λ spared h word is. then.still_open spared (first.honest spared h) word (first.still_open spared h word is);
  untouched = λ word. untouched_then (still_opening first) (first.untouched word) (then.untouched word);
}
