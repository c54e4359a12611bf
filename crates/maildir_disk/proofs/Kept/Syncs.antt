-- What a power cut leaves after a sync of `new`, and then of `cur`.
use Rattle.std.proofs.Common.{◌≡◌, ℕ, List, [], ◌∷◌, ◌++◌, IsTrue, refl, sym, ap, subst, ◌∙◌, Contains, arith, get_or}
use Rattle.std.proofs.Common.{rules}
use Rattle.maildir_disk.proofs.Common.{contains_key, Contains-append_left, Contains-append_right, Sub, New}
use Rattle.maildir_disk.proofs.Common.{Cur, World, Acts, Message, AreNamed, IsHome, FileMap, Files, Action, acted, all_acted, held_under, acted_kept}
use Rattle.maildir_disk.proofs.Common.{is_name-true, homes_one, none_held, held_none, IsIntact, HasBody, KeepsNames, LeftByOthers, Syncs}
use Rattle.maildir_disk.proofs.Calls.Passing.{all_acted-append}
use Rattle.maildir_disk.proofs.Left.Lefts.{others_then}
use Rattle.maildir_run.proofs.Call.ListedNowhere.{all_acted_new}
use Rattle.maildir_run.proofs.Names.Maps.{none_if_not_some}
use Rattle.maildir_disk.proofs.Left.LeftHomes.{first_in, intact_on, others_hold}
use Rattle.maildir_disk.proofs.Common.{Spared, is_spared, is_spared_name, AllSpared, spared_named}

-- what a list holds if it can hold one thing alone
only : {x : List ℕ} (found : List (List ℕ)) → ((y : List ℕ) → Contains found y → y ≡ x) → (found ≡ [] → ⊥) → Contains found x
only [] is some = absurd (some refl)
only (y ∷ found) is some = search (rules, first_in)

module _ (spared : Spared) (m : Message) (named : IsTrue (is_spared spared m.target.base)) where
  -- two folders that have the same converter's names
  abbrev Alike : FileMap → FileMap → Type 0
  Alike there moment = (name : List ℕ) → IsTrue (is_spared_name spared name) → contains_key there name ≡ contains_key moment name

  none_alike : (there moment : FileMap) → Alike there moment → held_under m.target.base there ≡ [] → held_under m.target.base moment ≡ []
  none_alike there moment alike none = grind (arith, held_none, is_name-true, none_if_not_some, none_held)

  found_new : (moment there : Files) → Alike there.new moment.new → IsIntact spared there m → (held_under m.target.base moment.new ≡ [] → ⊥) → HasBody there m
  found_new moment there alike intact some =
      let has = λ (y : List ℕ) (h : Contains (held_under m.target.base there.new) y). intact.holds y (Contains-append_left _ _ y h) in
      Contains-append_left _ _ m.body (only (held_under m.target.base there.new) has (λ none. some (none_alike there.new moment.new alike none)))

  found_cur : (moment there : Files) → Alike there.cur moment.cur → IsIntact spared there m → (held_under m.target.base moment.cur ≡ [] → ⊥) → HasBody there m
  found_cur moment there alike intact some =
      let has = λ (y : List ℕ) (h : Contains (held_under m.target.base there.cur) y). intact.holds y (Contains-append_right _ _ y h) in
      Contains-append_right _ _ m.body (only (held_under m.target.base there.cur) has (λ none. some (none_alike there.cur moment.cur alike none)))

  pub still_home : (actions : List Action) (s : Files) → IsHome s m → IsHome (all_acted spared actions s) m
  still_home [] s home = home
  still_home (action ∷ actions) s home =
      still_home actions (acted spared action s)
      (homes_one m.target.base m.body s (acted spared action s) (acted_kept spared m.target.base named action s) home)

  pub kept_names : {s t u before mid left : Files} → IsHome s m → IsIntact spared before m
      → KeepsNames spared New s before t mid → KeepsNames spared Cur t mid u left → HasBody left m
  kept_names {s} {before} {mid} {left} home intact first then =
      let whole = intact_on m before first.there (others_hold m named first.earlier) intact in
      let whole_mid = intact_on m first.there mid (others_hold m named first.later) whole in
      let whole_then = intact_on m mid then.there (others_hold m named then.earlier) whole_mid in
      elim (held_under m.target.base first.moment.new) as (λ found. held_under m.target.base first.moment.new ≡ found → HasBody left m) [
        | y ∷ found ↦ λ e.
            let has = found_new first.moment first.there first.names_are whole (λ none. let off = sym none ∙ e in cc) in
            (others_hold m named then.later).steady.still
            ((others_hold m named then.earlier).steady.still ((others_hold m named first.later).steady.still has))
        | [] ↦ λ none.
            let none_then : held_under m.target.base then.moment.new ≡ [] =
            subst (λ x. held_under m.target.base x.new ≡ []) (sym (then.moment_is ∙ ap (all_acted spared then.actions) first.new_is))
            (all_acted_new spared m.target.base named then.actions (all_acted spared first.rest first.moment)
            (all_acted_new spared m.target.base named first.rest first.moment none)) in
            let home_then : IsHome then.moment m =
            subst (λ x. IsHome x m)
            (sym (then.moment_is ∙ (ap (all_acted spared then.actions) (first.new_is ∙ ap (all_acted spared first.rest) first.moment_is))))
            (still_home then.actions _ (still_home first.rest _ (still_home first.actions s home))) in
            let has = found_cur then.moment then.there then.names_are whole_then (λ off.
            let one = sym home_then ∙ (ap (λ xs. xs ++ held_under m.target.base then.moment.cur) none_then ∙ off) in cc) in
            (others_hold m named then.later).steady.still has
      ] refl

pub synced_bodies : {spared : Spared} (ms : List Message) → AreNamed ms → {old before new left : Files}
    → AllSpared spared (IsHome old) ms → AllSpared spared (IsIntact spared before) ms → Syncs spared old before new left → AllSpared spared (HasBody left) ms
synced_bodies {spared} ms named home intact syncs k d below sp =
    kept_names spared (get_or ms k d) (spared_named spared _ sp (named k d below)) (home k d below sp) (intact k d below sp) syncs.first syncs.then

-- a sync of one folder, and then what other programs did
pub kept_later : {spared : Spared} {sub : Sub} {s before : Files} {t u : World} {mid left : Files}
    → KeepsNames spared sub s before t.files mid → Acts spared t u → LeftByOthers spared mid left → KeepsNames spared sub s before u.files left
kept_later {spared} keeps acts leaves = record {
  moment = keeps.moment;
  actions = keeps.actions;
  moment_is = keeps.moment_is;
  rest = keeps.rest ++ acts.actions;
  new_is = acts.files_are ∙ (ap (all_acted spared acts.actions) keeps.new_is ∙ sym (all_acted-append spared keeps.rest acts.actions keeps.moment));
  there = keeps.there;
  earlier = keeps.earlier;
  later = others_then keeps.later leaves;
  names_are = keeps.names_are;
}
