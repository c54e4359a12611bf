-- What one call of a run gives, in the words of a run.
use Rattle.std.proofs.Common.{◌≡◌, ℕ, true, false, ◌||◌, List, [], ◌∷◌, None, IsPermutation, arith, inl, inr}
use Rattle.std.proofs.Common.{IsTrue, IsFalse, refl, sym, ap, ◌∙◌, is_some}
use Rattle.maildir_run.proofs.Common.{list_any, get, keys, contains_key-keys, or-true, or_parts, Spared, is_spared, is_spared_name, IsSpared, and_parts, base}
use Rattle.maildir_run.proofs.Common.{list_any-IsPermutation, IsPermutation-trans, Sub, Tmp, cases_Bool}
use Rattle.maildir_run.proofs.Common.{Files, FileMap, is_name, has_base, held_under, homes, Call, Listing, Writing}
use Rattle.maildir_run.proofs.Common.{Placing, Removing, after, Succeeded, AnyMoves, Lists, PlacesElsewhere, WritesElsewhere}
use Rattle.maildir_run.proofs.Common.{StaysOrGoes, Message, IsMissing, IsHome, KeepsHomes, TmpWithin, DeliversMessage, IsTarget}
use Rattle.maildir_name.specs.declared.target.Place.{Place}
use Rattle.maildir_run.proofs.Names.Maps.{none_if_not_some, is_name-true, is_name-refl, get-remove_same}
use Rattle.maildir_run.proofs.Call.Homes.{spared_named}
use Rattle.maildir_run.proofs.Call.Moves.{Arrived, after_kept, after_tmp, after-append, homes_none, none_held, placing, placing_ok, WrittenOrGone, writing_ok}

-- ---- any answer is some list of moves, which is what `AnyMoves` says
pub ok_moves : {spared : Spared} {call : Call} {old new : Files} → Succeeded spared call old new → AnyMoves spared call old new
ok_moves h = grind arith

pub called_kept : {spared : Spared} (b : List ℕ) → IsTrue (is_spared spared b) → {call : Call} → PlacesElsewhere b call
    → {old new : Files} → AnyMoves spared call old new → IsPermutation (homes old b) (homes new b)
called_kept b named {call} h {old} c = grind (arith, after_kept)

pub called_tmp : {spared : Spared} (q : List ℕ) → IsTrue (is_spared_name spared q) → {call : Call}
    → WritesElsewhere q call → {old new : Files} → AnyMoves spared call old new → StaysOrGoes q old new
called_tmp q ours {call} h {old} c = grind (arith, after_tmp)

-- ---- tmp
pub within_on : {spared : Spared} {names : List (List ℕ)} {old new : Files}
    → ((q : List ℕ) → IsTrue (is_spared_name spared q) → IsFalse (list_any (is_name q) names) → StaysOrGoes q old new) → TmpWithin spared names old
    → TmpWithin spared names new
within_on stays within = grind arith

none_within : {spared : Spared} {names : List (List ℕ)} {s : Files} → TmpWithin spared [] s → TmpWithin spared names s
none_within within = grind arith

one_off : (q name : List ℕ) → IsFalse (list_any (is_name q) (name ∷ [])) → IsFalse (is_name q name)
one_off q name off = (or_parts (is_name q name) false off).0

pub writing_within : {spared : Spared} {name bytes : List ℕ} {old new : Files} → AnyMoves spared (Writing name bytes) old new → TmpWithin spared [] old
    → TmpWithin spared (name ∷ []) new
writing_within {name} {bytes} {old} {new} c within =
    within_on (λ q ours off. called_tmp q ours (one_off q name off) c) (none_within within)

without : {spared : Spared} (name : List ℕ) (names : List (List ℕ)) (s : Files) → (IsTrue (is_spared_name spared name) → get s.tmp name ≡ None)
    → TmpWithin spared (name ∷ names) s → TmpWithin spared names s
without {spared} name names s gone within = record {
  gone = λ q ours off.
      elim (cases_Bool (is_name q name)) [
        | inl e ↦ let same = is_name-true q name e in rw same (gone (rw same at ours))
        | inr e ↦ within.gone q ours (rw (e, off) refl)
      ];
}

removing_gone : {spared : Spared} {name : List ℕ} → IsTrue (is_spared_name spared name) → {old new : Files} → Succeeded spared (Removing name) old new
    → get new.tmp name ≡ None
removing_gone {name} ours {old} done = grind (arith, after-append, after_tmp, get-remove_same)

pub removing_within : {spared : Spared} {name : List ℕ} {names : List (List ℕ)} {old new : Files}
    → Succeeded spared (Removing name) old new → TmpWithin spared (name ∷ names) old → TmpWithin spared names new
removing_within {name} {names} {old} {new} done within =
    without name names new (λ ours. removing_gone ours done)
    (within_on (λ q is off. called_tmp q is tt (ok_moves done)) within)

pub placing_within : {spared : Spared} {name : List ℕ} {p : Place} {target : List ℕ} {old new : Files}
    → Succeeded spared (Placing name p target) old new → (IsTrue (is_spared_name spared name) → get new.tmp name ≡ None) → TmpWithin spared (name ∷ []) old
    → TmpWithin spared [] new
placing_within {name} {p} {target} {old} {new} done gone within =
    without name [] new gone
    (within_on (λ q is off. called_tmp q is tt (ok_moves done)) within)

pub listing_within : {spared : Spared} {old : Files} {names : List (List ℕ)} {new : Files} → Lists spared Tmp old names new → TmpWithin spared names new
listing_within {spared} {old} {names} listed =
    let call = Listing Tmp in
    let mid = after spared old call listed.before in
    let here : TmpWithin spared names mid = record {
      gone = λ q ours off.
          none_if_not_some _ (contains_key-keys mid.tmp q ∙ sym (list_any-IsPermutation (is_name q) names (keys mid.tmp) listed.names_are) ∙ off);
    } in
    grind (arith, after-append, after_tmp)

-- ---- the homes
pub listing_keeps_homes : {spared : Spared} (sub : Sub) (old : Files) (names : List (List ℕ)) (new : Files) → Lists spared sub old names new
    → KeepsHomes spared old new
listing_keeps_homes sub old names new listed = grind (arith, after_kept)

elsewhere : (m : Message) (base target : List ℕ) → IsTrue (has_base m.target.base target)
    → IsFalse (is_name m.target.base base) → IsFalse (has_base base target)
elsewhere m base target on off = grind (arith, is_name-true, is_name-refl)

-- ---- what a listing shows is there
shown : (b : List ℕ) (ks : List (List ℕ)) → list_any (has_base b) ks ≡ true → (q : List ℕ) × (has_base b q ≡ true) × (list_any (is_name q) ks ≡ true)
shown b [] e = cc
shown b (k ∷ ks) e =
    elim (has_base b k)
    as (λ t. has_base b k ≡ t → (t || list_any (has_base b) ks) ≡ true → (q : List ℕ) × (has_base b q ≡ true) × (list_any (is_name q) (k ∷ ks) ≡ true)) [
      | true ↦ grind (arith, is_name-refl)
      | false ↦ λ off e. let r = shown b ks e in (r.0, r.1, rw r.2 (or-true (is_name r.0 k)))
    ] refl e

pub not_shown : (b : List ℕ) (m : FileMap) {names : List (List ℕ)} → IsPermutation names (keys m)
    → held_under b m ≡ [] → IsTrue (list_any (has_base b) names) → ⊥
not_shown b m {names} listed e on =
    let r = shown b (keys m) (sym (list_any-IsPermutation (has_base b) names (keys m) listed) ∙ on) in
    let is : is_some (get m r.0) ≡ true = contains_key-keys m r.0 ∙ r.2 in
    let none : is_some (get m r.0) ≡ false = ap is_some (none_held b m e r.0 r.1) in
    cc

-- ---- a message is written and placed
written_leaves : {spared : Spared} {name bytes : List ℕ} {old new : Files} → AnyMoves spared (Writing name bytes) old new → KeepsHomes spared old new
written_leaves {name} {bytes} {old} {new} c = record { kept = λ base named. called_kept base named tt c }

own_base : (spared : Spared) (m : Message) → IsTarget m.target → IsSpared spared m → IsTrue (is_spared spared m.target.base)
own_base spared m is sp = spared_named spared m.target.base sp is.named

of_name : (spared : Spared) (m : Message) → IsTarget m.target → IsTrue (is_spared_name spared m.target.base) → IsSpared spared m
of_name spared m is ours = ap spared.bases (is_name-true _ _ is.whole) ∙ (and_parts _ _ ours).0

pub write_delivers : {spared : Spared} {m : Message} → IsTarget m.target → {old new : Files}
    → AnyMoves spared (Writing m.target.base m.body) old new → (IsSpared spared m → IsMissing old m) → DeliversMessage spared m old new
write_delivers {m} is {old} {new} c missing =
    let leaves = written_leaves c in
    record { own = λ sp. grind (arith, homes_none, own_base); others = λ b named off. leaves.kept b named }

-- the base is a name that is spared
pub base_name : (spared : Spared) (m : Message) → IsTarget m.target → IsSpared spared m → IsTrue (is_spared_name spared m.target.base)
base_name spared m is sp = ap (is_spared spared) (sym (is_name-true _ _ is.whole)) ∙ own_base spared m is sp

pub record WrittenFirst (spared : Spared) (m : Message) (old mid : Files) : Type 0 where
  pub written : IsSpared spared m → WrittenOrGone m.target.base m.body mid
  pub missing : IsSpared spared m → IsMissing mid m
  pub leaves : KeepsHomes spared old mid
  pub within : TmpWithin spared [] old → TmpWithin spared (m.target.base ∷ []) mid

pub write_ok : {spared : Spared} {m : Message} → IsTarget m.target → {old mid : Files}
    → Succeeded spared (Writing m.target.base m.body) old mid → (IsSpared spared m → IsMissing old m) → WrittenFirst spared m old mid
write_ok {spared} {m} is {old} {mid} done missing =
    let moves = ok_moves done in
    let leaves = written_leaves moves in
    record {
      written = λ sp. writing_ok m.target.base m.body spared (base_name spared m is sp) old mid done;
      missing = λ sp. grind (arith, homes_none, own_base);
      leaves = leaves;
      within = writing_within moves;
    }

module _ {spared : Spared} (m : Message) (is : IsTarget m.target) (old mid new : Files) (w : WrittenFirst spared m old mid) where
  abbrev put : Call
  put = Placing m.target.base m.target.place m.target.name

  pub place_delivers : AnyMoves spared put mid new → DeliversMessage spared m old new
  place_delivers c =
      record {
        own = λ sp. let named = own_base spared m is sp in let ours = base_name spared m is sp in grind (arith, placing);
        others = λ base named off.
            IsPermutation-trans _ _ _ (w.leaves.kept base named) (called_kept base named (elsewhere m base _ is.under off) c);
      }

  arrived : Succeeded spared put mid new → IsSpared spared m → Arrived m.target.base m.target.base (get mid.tmp m.target.base) new
  arrived done sp =
      placing_ok spared m.target.base m.target.base m.target.place m.target.name
      (own_base spared m is sp) (base_name spared m is sp) is.under mid new done (w.missing sp)

  pub place_home : Succeeded spared put mid new → (IsSpared spared m → IsHome new m) × (TmpWithin spared [] old → TmpWithin spared [] new)
  place_home done = (
    λ sp. let a = arrived done sp in let wrote = w.written sp in grind arith,
    λ within. placing_within done (λ ours. (arrived done (of_name spared m is ours)).gone) (w.within within),
  )

-- ---- from one moment to another
pub leaves_none : {spared : Spared} (s : Files) → KeepsHomes spared s s
leaves_none s = grind arith

pub leaves_trans : {spared : Spared} (a b c : Files) → KeepsHomes spared a b → KeepsHomes spared b c → KeepsHomes spared a c
leaves_trans a b c first then = grind (arith, IsPermutation-trans)
