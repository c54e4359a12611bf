-- What a call's moves leave: of the homes of a base, and of a name in tmp.
use Rattle.std.proofs.Common.{◌≡◌, ℕ, true, false, List, [], ◌∷◌, ◌++◌, ◌⊎◌, Option, Some, None}
use Rattle.std.proofs.Common.{IsPermutation, IsTrue, refl, sym, ap, ◌∙◌, inl, inr, map, arith}
use Rattle.maildir_run.proofs.Common.{get, insert, remove, values, contains_key, retain_keys, empty, get-entries, get-insert, get-empty}
use Rattle.maildir_run.proofs.Common.{same_map, len, len-empty, len-entries, All-nil, All-cons, nil_from_length, IsPermutation-refl}
use Rattle.maildir_run.proofs.Common.{IsPermutation-sym, IsPermutation-trans, IsPermutation-middle, IsPermutation-append_left}
use Rattle.maildir_run.proofs.Common.{IsPermutation-append_right, length_permutation, All-permutation, name_cmp}
use Rattle.maildir_run.proofs.Common.{is_name, FileMap, Files, has_base, held_under, homes, Action, Spared, is_spared, is_spared_name}
use Rattle.maildir_run.proofs.Common.{to_cur, reflag, acted, Call, Writing, Placing, Move, Other, Again, Torn, placed, effect}
use Rattle.maildir_run.proofs.Common.{torn, moved, after, IsOthers, IsWhole, Succeeded, PlacesElsewhere, WritesElsewhere, StaysOrGoes, IsReady}
use Rattle.maildir_name.specs.declared.target.Place.{Place}
use Rattle.maildir_name.specs.declared.target.Place.TheVariants.{New, Cur}
use Rattle.maildir_run.proofs.Names.Maps.{total, same, get_under, get_removed, get-insert_same, get-remove_same}
use Rattle.maildir_run.proofs.Call.Homes.{KeepsHomesOf, equally, acted_kept, held-insert_other, held-insert_new, get-outsiders_of}

-- ---- a base at which nothing is placed
placed_kept : (b : List ℕ) (name : List ℕ) (p : Place) (target : List ℕ) → has_base b target ≡ false
    → (o : Option (List ℕ)) (s : Files) → KeepsHomesOf b s (placed s name p target o)
placed_kept b name p target off o s = grind (arith, IsPermutation-refl, equally, held-insert_other)

effect_kept : (b : List ℕ) (call : Call) → PlacesElsewhere b call → (s : Files) → KeepsHomesOf b s (effect call s)
effect_kept b call h s = grind (arith, placed_kept, IsPermutation-refl)

pub torn_kept : (b : List ℕ) (call : Call) (bytes : List ℕ) (s : Files) → KeepsHomesOf b s (torn call bytes s)
torn_kept b call bytes s = grind (arith, IsPermutation-refl)

module _ (spared : Spared) (b : List ℕ) (named : IsTrue (is_spared spared b)) (call : Call) (h : PlacesElsewhere b call) where
  moved_kept : (m : Move) (s : Files) → KeepsHomesOf b s (moved spared call m s)
  moved_kept m s = grind (arith, acted_kept, effect_kept, torn_kept)

  pub after_kept : (ms : List Move) (s : Files) → KeepsHomesOf b s (after spared s call ms)
  after_kept [] s = IsPermutation-refl _
  after_kept (m ∷ ms) s = IsPermutation-trans _ _ _ (moved_kept m s) (after_kept ms (moved spared call m s))

-- ---- a name in tmp
pub stays : (q : List ℕ) (s : Files) → StaysOrGoes q s s
stays q s = inl refl

pub stays_trans : (q : List ℕ) (a b c : Files) → StaysOrGoes q a b → StaysOrGoes q b c → StaysOrGoes q a c
stays_trans q a b c h w = grind arith

dropped : (q name : List ℕ) (s : Files) → StaysOrGoes q s (record s { tmp = remove s.tmp name })
dropped q name s = grind (arith, get_removed)

module _ (s : Files) (name target : List ℕ) where
  pub to_cur_tmp : (o : Option (List ℕ)) → (to_cur s name target o).tmp ≡ s.tmp
  to_cur_tmp o = grind arith

  pub reflag_tmp : (o : Option (List ℕ)) → (reflag s name target o).tmp ≡ s.tmp
  reflag_tmp o = grind arith

pub acted_tmp : (spared : Spared) (q : List ℕ) → IsTrue (is_spared_name spared q) → (action : Action) (s : Files) → StaysOrGoes q s (acted spared action s)
acted_tmp spared q ours action s = grind (arith, to_cur_tmp, reflag_tmp, dropped, get-outsiders_of)

written_elsewhere : (q name bytes : List ℕ) (s : Files) → is_name q name ≡ false → StaysOrGoes q s (record s { tmp = insert s.tmp name bytes })
written_elsewhere q name bytes s off = grind (arith, get-insert, total)

placed_tmp : (q name : List ℕ) (p : Place) (target : List ℕ) (o : Option (List ℕ)) (s : Files) → StaysOrGoes q s (placed s name p target o)
placed_tmp q name p target o s = grind (arith, dropped)

effect_tmp : (q : List ℕ) (call : Call) → WritesElsewhere q call → (s : Files) → StaysOrGoes q s (effect call s)
effect_tmp q call h s = grind (arith, written_elsewhere, placed_tmp, dropped)

torn_tmp : (q : List ℕ) (call : Call) → WritesElsewhere q call → (bytes : List ℕ) (s : Files) → StaysOrGoes q s (torn call bytes s)
torn_tmp q call h bytes s = grind (arith, written_elsewhere)

module _ (spared : Spared) (q : List ℕ) (ours : IsTrue (is_spared_name spared q)) (call : Call) (h : WritesElsewhere q call) where
  moved_tmp : (m : Move) (s : Files) → StaysOrGoes q s (moved spared call m s)
  moved_tmp m s = grind (arith, acted_tmp, effect_tmp, torn_tmp)

  pub after_tmp : (ms : List Move) (s : Files) → StaysOrGoes q s (after spared s call ms)
  after_tmp [] s = inl refl
  after_tmp (m ∷ ms) s = stays_trans q s (moved spared call m s) (after spared s call (m ∷ ms)) (moved_tmp m s) (after_tmp ms (moved spared call m s))

-- ---- small lists in any order
pub permutation_of_none : {X : Type 0} {ys : List X} → IsPermutation [] ys → ys ≡ []
permutation_of_none {ys} h = nil_from_length ys (length_permutation [] ys h)

pub permutation_of_one : {X : Type 0} {x : X} (ys : List X) → IsPermutation (x ∷ []) ys → ys ≡ x ∷ []
permutation_of_one {x} [] h = absurd (omega (arith, length_permutation (x ∷ []) [] h))
permutation_of_one {x} (y ∷ []) h =
    ap (λ z. z ∷ []) (All-permutation (λ z. z ≡ x) (x ∷ []) (y ∷ []) h (All-cons (λ z. z ≡ x) x [] refl (All-nil _)) 0 y (omega arith))
permutation_of_one {x} (y ∷ z ∷ ys) h = absurd (omega (arith, length_permutation (x ∷ []) (y ∷ z ∷ ys) h))

pub homes_none : (b : List ℕ) (old new : Files) → KeepsHomesOf b old new → homes old b ≡ [] → homes new b ≡ []
homes_none b old new h e = permutation_of_none (rw e at h)

pub homes_one : (b x : List ℕ) (old new : Files) → KeepsHomesOf b old new → homes old b ≡ x ∷ [] → homes new b ≡ x ∷ []
homes_one b x old new h e = permutation_of_one _ (rw e at h)

-- ---- no file under a base
no_entries : (es : List (List ℕ × List ℕ)) → map (λ e. e.1) es ≡ [] → es ≡ []
no_entries [] e = refl
no_entries (x ∷ es) e = cc

pub none_held : (b : List ℕ) (m : FileMap) → held_under b m ≡ [] → (q : List ℕ) → has_base b q ≡ true → get m q ≡ None
none_held b m e q on =
    let kept = retain_keys m (has_base b) in
    let is : get kept q ≡ get m q = get_under (has_base b) m q ∙ rw on refl in
    sym is ∙ get-entries kept q ∙ rw (no_entries _ e) refl

no_values : (m : FileMap) → len m ≡ 0 → values m ≡ []
no_values m e = grind (arith, nil_from_length, len-entries)

pub held_none : (b : List ℕ) (m : FileMap) → ((q : List ℕ) → has_base b q ≡ true → get m q ≡ None) → held_under b m ≡ []
held_none b m none =
    let is : retain_keys m (has_base b) ≡ empty = same_map total same _ _ (λ q. grind (arith, get_under, none q, get-empty {X = List ℕ} name_cmp q)) in
    grind (arith, no_values, len-empty)

-- ---- a base that has no home, at which a call places
pub both_none : {X : Type 0} (xs ys : List X) → xs ++ ys ≡ [] → (xs ≡ []) × (ys ≡ [])
both_none [] ys e = (refl, e)
both_none (x ∷ xs) ys e = cc

-- it has none as yet, and tmp has under the name what it had, or nothing
pub record Waits (b name : List ℕ) (had : Option (List ℕ)) (s : Files) : Type 0 where
  pub homes_are : homes s b ≡ []
  pub waiting : (get s.tmp name ≡ had) ⊎ (get s.tmp name ≡ None)

-- it has one, which holds what tmp had under the name
pub record Arrived (b name : List ℕ) (had : Option (List ℕ)) (s : Files) : Type 0 where
  pub bytes : List ℕ
  pub was : had ≡ Some bytes
  pub homes_are : homes s b ≡ bytes ∷ []
  pub gone : get s.tmp name ≡ None

homes_first : (xs ys : List (List ℕ)) {v : List ℕ} {zs : List (List ℕ)} → xs ++ ys ≡ [] → IsPermutation (v ∷ (xs ++ ys)) zs → zs ≡ v ∷ []
homes_first xs ys {v} {zs} e h = permutation_of_one zs (rw e at h)

-- a base that has no home, and then the file of tmp
placed_first : (b name : List ℕ) (p : Place) (target bytes : List ℕ) (s : Files) → has_base b target ≡ true
    → homes s b ≡ [] → homes (placed s name p target (Some bytes)) b ≡ bytes ∷ []
placed_first b name New target bytes s on e =
    let parts = both_none _ _ e in
    homes_first (held_under b s.new) (held_under b s.cur) e
    (IsPermutation-append_left (held_under b s.cur) _ _ (held-insert_new b s.new target bytes on (none_held b s.new parts.0 target on)))
placed_first b name Cur target bytes s on e =
    let parts = both_none _ _ e in
    homes_first (held_under b s.new) (held_under b s.cur) e
    (IsPermutation-trans _ _ _
    (IsPermutation-sym _ _ (IsPermutation-middle (held_under b s.new) bytes (held_under b s.cur)))
    (IsPermutation-append_right (held_under b s.new) _ _ (held-insert_new b s.cur target bytes on (none_held b s.cur parts.1 target on))))

module _ (b name : List ℕ) (had : Option (List ℕ)) (s t : Files) (kept : KeepsHomesOf b s t) where
  waits_on : StaysOrGoes name s t → Waits b name had s → Waits b name had t
  waits_on (inr gone) w = record { homes_are = homes_none b s t kept w.homes_are; waiting = inr gone }
  waits_on (inl stays) w =
      record {
        homes_are = homes_none b s t kept w.homes_are;
        waiting = grind arith;
      }

  arrived_on : StaysOrGoes name s t → Arrived b name had s → Arrived b name had t
  arrived_on stays a = grind (arith, homes_one)

pub placed_gone : (s : Files) (name : List ℕ) (p : Place) (target bytes : List ℕ) → get (placed s name p target (Some bytes)).tmp name ≡ None
placed_gone s name p target bytes = grind (arith, get-remove_same)

-- the effect, where tmp has the file
arrives : {b name : List ℕ} (p : Place) (target : List ℕ) {had : Option (List ℕ)} {s : Files} → has_base b target ≡ true
    → Waits b name had s → {bytes : List ℕ} → get s.tmp name ≡ Some bytes → Arrived b name had (placed s name p target (Some bytes))
arrives {b} {name} p target {s} on w {bytes} has = grind (arith, placed_first, placed_gone)

abbrev pub Stage : (b name : List ℕ) (had : Option (List ℕ)) (s : Files) → Type 0
Stage b name had s = Waits b name had s ⊎ Arrived b name had s

module _ (spared : Spared) (b name : List ℕ) (p : Place) (target : List ℕ) (named : IsTrue (is_spared spared b))
    (ours : IsTrue (is_spared_name spared name)) (on : has_base b target ≡ true) (had : Option (List ℕ)) where
  arrived_again : (s : Files) → Arrived b name had s → Arrived b name had (effect (Placing name p target) s)
  arrived_again s a = rw a.gone a

  waits_again : (s : Files) → Waits b name had s → Stage b name had (effect (Placing name p target) s)
  waits_again s w = grind (arith, arrives)

  arrived_moved : (m : Move) (s : Files) → Arrived b name had s → Arrived b name had (moved spared (Placing name p target) m s)
  arrived_moved (Other action) s a =
      arrived_on b name had s (acted spared action s) (acted_kept spared b named action s) (acted_tmp spared name ours action s) a
  arrived_moved Again s a = arrived_again s a
  arrived_moved (Torn bytes) s a = a

  pub arrived_after : (ms : List Move) (s : Files) → Arrived b name had s → Arrived b name had (after spared s (Placing name p target) ms)
  arrived_after [] s a = a
  arrived_after (m ∷ ms) s a = arrived_after ms (moved spared (Placing name p target) m s) (arrived_moved m s a)

  stage_moved : (m : Move) (s : Files) → Stage b name had s → Stage b name had (moved spared (Placing name p target) m s)
  stage_moved m s (inr a) = inr (arrived_moved m s a)
  stage_moved (Other action) s (inl w) =
      inl (waits_on b name had s (acted spared action s) (acted_kept spared b named action s) (acted_tmp spared name ours action s) w)
  stage_moved Again s (inl w) = waits_again s w
  stage_moved (Torn bytes) s (inl w) = inl w

  pub stage_after : (ms : List Move) (s : Files) → Stage b name had s → Stage b name had (after spared s (Placing name p target) ms)
  stage_after [] s st = st
  stage_after (m ∷ ms) s st = stage_after ms (moved spared (Placing name p target) m s) (stage_moved m s st)

  -- others alone let it wait
  pub waits_after : (ms : List Move) (s : Files) → IsOthers ms → Waits b name had s → Waits b name had (after spared s (Placing name p target) ms)
  waits_after [] s others w = w
  waits_after (Other action ∷ ms) s others w =
      waits_after ms (acted spared action s) others
      (waits_on b name had s (acted spared action s) (acted_kept spared b named action s) (acted_tmp spared name ours action s) w)
  waits_after (other ∷ ms) s others w = absurd others

  ready : (s : Files) → Waits b name had s → IsTrue (contains_key s.tmp name) → Arrived b name had (effect (Placing name p target) s)
  ready s w has = grind (arith, arrives)

pub after-append : (spared : Spared) (s : Files) (call : Call) (ms ns : List Move)
    → after spared s call (ms ++ ns) ≡ after spared (after spared s call ms) call ns
after-append spared s call [] ns = refl
after-append spared s call (m ∷ ms) ns = after-append spared (moved spared call m s) call ms ns

-- whatever a call that places at a base without a home answers
module _ (spared : Spared) (b name : List ℕ) (p : Place) (target : List ℕ) (named : IsTrue (is_spared spared b))
    (ours : IsTrue (is_spared_name spared name)) (on : has_base b target ≡ true) where
  pub placing : (ms : List Move) (s : Files) → homes s b ≡ [] → Stage b name (get s.tmp name) (after spared s (Placing name p target) ms)
  placing ms s e = grind (arith, stage_after)

  -- and with Ok
  pub placing_ok : (old new : Files) → Succeeded spared (Placing name p target) old new → homes old b ≡ [] → Arrived b name (get old.tmp name) new
  placing_ok old new done e =
      let had = get old.tmp name in
      let call = Placing name p target in
      let mid = after spared old call done.before in
      let w : Waits b name had mid =
      waits_after spared b name p target named ours on had done.before old done.others (record { homes_are = e; waiting = inl refl }) in
      grind (arith, after-append, arrived_after, ready)

-- ---- what was written
module _ (name bytes : List ℕ) where
  abbrev pub WrittenOrGone : (s : Files) → Type 0
  WrittenOrGone s = (get s.tmp name ≡ Some bytes) ⊎ (get s.tmp name ≡ None)

  written_on : (s : Files) (t : Files) → StaysOrGoes name s t → WrittenOrGone s → WrittenOrGone t
  written_on s t h w = grind (arith, stays)

  written_after : (spared : Spared) → IsTrue (is_spared_name spared name) → (ms : List Move) (s : Files)
      → IsWhole ms → WrittenOrGone s → WrittenOrGone (after spared s (Writing name bytes) ms)
  written_after spared ours [] s whole w = w
  written_after spared ours (Other action ∷ ms) s whole w =
      written_after spared ours ms (acted spared action s) whole (written_on s (acted spared action s) (acted_tmp spared name ours action s) w)
  written_after spared ours (Again ∷ ms) s whole w = written_after spared ours ms (effect (Writing name bytes) s) whole (inl (get-insert_same s.tmp name bytes))
  written_after spared ours (Torn _ ∷ ms) s whole w = absurd whole

  pub writing_ok : (spared : Spared) → IsTrue (is_spared_name spared name) → (old new : Files) → Succeeded spared (Writing name bytes) old new
      → WrittenOrGone new
  writing_ok spared ours old new done = grind (arith, after-append, written_after, get-insert_same)

pub once : {spared : Spared} (call : Call) (old new : Files) → IsReady call old → new ≡ effect call old → Succeeded spared call old new
once call old new ready left = record { before = []; rest = []; others = tt; ready = ready; whole = tt; left = left }
