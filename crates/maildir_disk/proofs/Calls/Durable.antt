-- A listing, and then a sync of the folder.
use Rattle.std.proofs.Common.{◌≡◌, ℕ, List, [], ◌∷◌, ◌++◌, map, append_assoc, IsTrue, Result, Ok, Err, refl, sym, ap, subst, ◌∙◌}
use Rattle.std.proofs.Common.{Vec, String, Global, is_some, IsErr}
use Rattle.std.proofs.lemmas.Bool.{false≢true}
use Rattle.maildir_disk.proofs.Calls.Listings.{reading_failed}
use Rattle.maildir_disk.proofs.Common.{get, contains_key, Sub, Tmp, New, Cur, Files, FileMap, Other, Again, after, Lists, Listing, Spared, is_spared}
use Rattle.maildir_disk.proofs.Common.{is_spared_name, acted_kept, all_acted, Action, acted, held_under, homes, is_name-true, none_held}
use Rattle.maildir_disk.proofs.Common.{held_none, World, Acts, KeepsNames, Follows, Leaves, LeftByOthers}
use Rattle.maildir_run.specs.Calls.{names_of}
use Rattle.maildir_run.proofs.Call.ListedNowhere.{all_acted_new, listed_cur, listed_new}
use Rattle.maildir_run.proofs.Call.Moves.{after-append, both_none, homes_none}
use Rattle.maildir_run.proofs.Names.Maps.{none_if_not_some}
use Rattle.maildir_run.proofs.Tasks.Firsts.{leaves_none_new, leaves_none_of}
use Rattle.maildir_run.specs.Files.{Honestly}
use Rattle.maildir_disk.specs.SeenSystem.{Looks, SeenSystem}
use Rattle.maildir_disk.specs.Private.OneMoment.{ReadsAtOnce, ReadsDurably}
use Rattle.maildir_disk.proofs.Calls.Answered.{whole_both}
use Rattle.maildir_disk.proofs.Calls.Looking.{looks_then}
use Rattle.maildir_disk.proofs.Calls.Passing.{after-others, others_whole}
use Rattle.maildir_disk.proofs.Left.Lefts.{others_leave, others_then}

-- the names of one moment of an earlier part of the call
lists_then : {spared : Spared} {sub : Sub} {a : Files} {b c : World} {names : List (List ℕ)} → Lists spared sub a names b.files → Acts spared b c
    → Lists spared sub a names c.files
lists_then {spared} {sub} {a} {b} {c} {names} lists acts =
    let call = Listing sub in
    let others = map Other acts.actions in
    record {
      before = lists.before;
      rest = lists.rest ++ others;
      whole_before = lists.whole_before;
      whole = whole_both lists.rest others lists.whole (others_whole acts.actions);
      names_are = lists.names_are;
      left =
          acts.files_are
          ∙ (ap (all_acted spared acts.actions) lists.left
          ∙ (sym (after-others spared acts.actions call (after spared a call (lists.before ++ Again ∷ lists.rest)))
          ∙ (sym (after-append spared a call (lists.before ++ Again ∷ lists.rest) others)
          ∙ ap (after spared a call) (append_assoc lists.before (Again ∷ lists.rest) others))));
    }

-- a listing, and then a look
reads_then : {E : Type 0} {sub : Sub} {a b c : SeenSystem} {names : Vec (String Global) Global} → ReadsAtOnce {E = E} sub a (Ok names) b → Looks b c
    → ReadsAtOnce {E = E} sub a (Ok names) c
reads_then reads looks = record {
  looks = looks_then reads.looks looks;
  listed = λ spared h. lists_then (reads.listed spared h) (looks.acts spared (reads.looks.honest spared h));
  exact = reads.exact;
}

-- ---- a base of which the folder had no file
module _ (spared : Spared) (b : List ℕ) (named : IsTrue (is_spared spared b)) where
  all_acted_none : (actions : List Action) (s : Files) → homes s b ≡ [] → homes (all_acted spared actions s) b ≡ []
  all_acted_none [] s e = e
  all_acted_none (action ∷ actions) s e =
      all_acted_none actions (acted spared action s) (homes_none b s (acted spared action s) (acted_kept spared b named action s) e)

  abbrev Alike : FileMap → FileMap → Type 0
  Alike there moment = (name : List ℕ) → IsTrue (is_spared_name spared name) → contains_key there name ≡ contains_key moment name

  none_there : (there moment : FileMap) → Alike there moment → held_under b moment ≡ [] → held_under b there ≡ []
  none_there there moment alike none =
      held_none b there (λ q on.
      let ours : IsTrue (is_spared_name spared q) = subst (λ x. IsTrue (is_spared spared x)) (is_name-true _ _ on) named in
      none_if_not_some (get there q) (alike q ours ∙ ap is_some (none_held b moment none q on)))

  kept_new : {s before t left : Files} → KeepsNames spared New s before t left → held_under b s.new ≡ [] → held_under b left.new ≡ []
  kept_new {s} {left = left} keeps none =
      let moment = subst (λ (x : Files). held_under b x.new ≡ []) (sym keeps.moment_is) (all_acted_new spared b named keeps.actions s none) in
      leaves_none_new spared b named Tmp keeps.there left (others_leave keeps.later) (none_there keeps.there.new keeps.moment.new keeps.names_are moment)

  kept_cur : {s before t left : Files} → KeepsNames spared Cur s before t left → homes s b ≡ [] → held_under b before.new ≡ [] → held_under b left.cur ≡ []
  kept_cur {s} {before} {left = left} keeps none gone =
      let moment = subst (λ (x : Files). homes x b ≡ []) (sym keeps.moment_is) (all_acted_none keeps.actions s none) in
      let there_cur = none_there keeps.there.cur keeps.moment.cur keeps.names_are (both_none _ _ moment).1 in
      let there_new = leaves_none_new spared b named Tmp before keeps.there (others_leave keeps.earlier) gone in
      let there : homes keeps.there b ≡ [] = rw (there_new, there_cur) refl in
      (both_none _ _ (leaves_none_of spared b named (Listing Tmp) tt keeps.there left (others_leave keeps.later) there)).1

-- ---- the listing was kept
listed_leaves : {spared : Spared} {sub folder : Sub} {s before mid t left : Files} → LeftByOthers spared before mid → KeepsNames spared folder s mid t left
    → Leaves spared (Listing sub) before left
listed_leaves earlier keeps = others_leave (others_then earlier (others_then keeps.earlier keeps.later))

pub new_kept : {E : Type 0} {a b c : SeenSystem} {names : Vec (String Global) Global} → ReadsAtOnce {E = E} New a (Ok names) b
    → Looks b c
    → Honestly b.honest (λ spared. Follows (λ before left. KeepsNames spared New b.world.files before c.world.files left) b.may_leave c.may_leave)
    → ReadsDurably {E = E} New a (Ok names) c
new_kept {a = a} {b} {names = names} reads looks keeps = record {
  reads = reads_then reads looks;
  unlisted = λ spared h left may.
      let two = keeps spared (reads.looks.honest spared h) left may in
      let one = reads.looks.left spared h two.0 two.1 in (
        one.0,
        one.1,
        record {
          leaves = listed_leaves one.2 two.2;
          unlisted = λ base named off.
              kept_new spared base named two.2
              (listed_new spared base named a.world.files (names_of names) b.world.files (reads.listed spared h) off);
        },
      );
}

pub cur_kept : {E : Type 0} {a b c : SeenSystem} {names : Vec (String Global) Global} → ReadsAtOnce {E = E} Cur a (Ok names) b
    → Looks b c
    → Honestly b.honest (λ spared. Follows (λ before left. KeepsNames spared Cur b.world.files before c.world.files left) b.may_leave c.may_leave)
    → ReadsDurably {E = E} Cur a (Ok names) c
cur_kept {a = a} {b} {names = names} reads looks keeps = record {
  reads = reads_then reads looks;
  unlisted = λ spared h left may.
      let two = keeps spared (reads.looks.honest spared h) left may in
      let one = reads.looks.left spared h two.0 two.1 in (
        one.0,
        one.1,
        record {
          leaves = listed_leaves one.2 two.2;
          unlisted = λ base named off none gone.
              kept_cur spared base named two.2
              (listed_cur spared base named a.world.files (names_of names) b.world.files none (reads.listed spared h) off)
              (leaves_none_new spared base named Tmp one.0 two.0 (others_leave one.2) gone);
        },
      );
}

-- `tmp` has no messages
pub tmp_kept : {E : Type 0} {a b : SeenSystem} {names : Vec (String Global) Global} → ReadsAtOnce {E = E} Tmp a (Ok names) b
    → ReadsDurably {E = E} Tmp a (Ok names) b
tmp_kept reads = record {
  reads = reads;
  unlisted = λ spared h left may.
      let one = reads.looks.left spared h left may in (one.0, one.1, record { leaves = others_leave one.2; unlisted = tt });
}

-- a call of it failed
pub not_kept : {E : Type 0} (sub : Sub) {a b : SeenSystem} (outcome : Result (Vec (String Global) Global) E) → IsErr outcome → Looks a b
    → ReadsDurably sub a outcome b
not_kept sub (Ok names) is looks = absurd (false≢true is)
not_kept sub (Err e) is looks = record { reads = reading_failed sub (Err e) is looks; unlisted = λ spared h. tt }
