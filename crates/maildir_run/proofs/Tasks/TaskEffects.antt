-- What tasks that were performed leave.
use Rattle.std.proofs.Common.{Option, Some, None, ◌≡◌, ℕ, ◌≤◌, Bool, true, false, cond, List, [], ◌∷◌, ◌++◌, ◌⊎◌, map, length, All, IsPermutation}
use Rattle.std.proofs.Common.{IsFalse, IsTrue, refl, sym, ap, subst, ◌∙◌, inl, inr, arith, append_assoc, length-append, filter, append-nil}
use Rattle.maildir_run.proofs.Common.{get, keys, cases_Bool, get_or-append_seam, get_or_append_left, All-head, All-tail, any-filter_same}
use Rattle.maildir_run.proofs.Common.{Target, is_converter_name, RunFault, filled, added, Call, Listing, Writing, Placing, Removing, AnyMoves}
use Rattle.maildir_run.specs.Touched.{FileName}
use Rattle.maildir_run.proofs.Common.{OneTouches, Touches, Spared, SparesAll, AllSpared, IsSpared, and_parts}
use Rattle.maildir_run.proofs.Common.{PlacesElsewhere, IsSwept, Message, IsMissing, IsHome, IsSoundAt, AreNamed, AreDistinct, has_home}
use Rattle.maildir_run.proofs.Common.{leftover_count, Files, is_name, is_listed, KeepsHomes, TmpWithin, DeliversMessage}
use Rattle.maildir_run.proofs.Common.{Progress, Knows, IsTarget, KeepsForeign, Task, Ask, Do, call_of, Done, Way, honestly, quietly, AllDone}
use Rattle.maildir_run.proofs.Common.{Stopped, Listings, listing_tasks, DoneUntil, sweep_of, delivery_of, delivery_if, deliveries_of}
use Rattle.maildir_run.specs.Tasks.{TaskRefused}
use Rattle.maildir_run.proofs.Names.Maps.{is_name-true}
use Rattle.maildir_run.proofs.Tasks.Progress.{progress_home, progress_delivered, progress_or_more, apart_prefix, still_missing, still_there}
use Rattle.maildir_run.proofs.Tasks.QuietRuns.{OfConverter, others_same, foreign_then, effect_others, own_others, delivers_exact, step_tmp}
use Rattle.maildir_run.proofs.Call.Homes.{none_of, home_known, spared_named}
use Rattle.maildir_run.proofs.Call.Steps.{ok_moves, called_kept, write_delivers, write_ok, place_delivers, place_home}
use Rattle.maildir_run.proofs.Call.Steps.{removing_within, listing_within, base_name, leaves_none, leaves_trans}
use Rattle.maildir_run.proofs.Call.FolderListings.{listed_within, three_listings, few_listed}

-- ---- the parts of a list of tasks
pub all_parts : {S : Type 0} (w : Way S) (xs ys : List Task) (a c : S) → AllDone w (xs ++ ys) a c → (b : S) × AllDone w xs a b × AllDone w ys b c
all_parts w [] ys a c h = (a, refl, h)
all_parts w (x ∷ xs) ys a c (mid, one, more) = let r = all_parts w xs ys mid c more in (r.0, (mid, one, r.1), r.2)

pub stopped_parts : {S : Type 0} (w : Way S) (xs ys : List Task) (a c : S) → Stopped w (xs ++ ys) a c
    → Stopped w xs a c ⊎ ((b : S) × AllDone w xs a b × Stopped w ys b c)
stopped_parts w [] ys a c h = inr (a, refl, h)
stopped_parts w (x ∷ xs) ys a c (inl h) = inl (inl h)
stopped_parts w (x ∷ xs) ys a c (inr (mid, one, more)) =
    elim (stopped_parts w xs ys mid c more) [
      | inl h ↦ inl (inr (mid, one, h))
      | inr (b, first, then) ↦ inr (b, (mid, one, first), then)
    ]

-- ---- a base at which nothing is placed
done_moves : {spared : Spared} (task : Task) {old new : Files} → Done spared task old new → AnyMoves spared (call_of task) old new
done_moves (Ask sub names) h = grind arith
done_moves (Do call) {old} {new} h = ok_moves h

-- each of the tasks is so
abbrev pub EachTask : (Task → Type 0) → List Task → Type 0
EachTask P [] = Unit {0}
EachTask P (task ∷ tasks) = P task × EachTask P tasks

pub each_of_both : (P : Task → Type 0) (xs ys : List Task) → EachTask P xs → EachTask P ys → EachTask P (xs ++ ys)
each_of_both P [] ys a b = b
each_of_both P (x ∷ xs) ys a b = (a.0, each_of_both P xs ys a.1 b)

-- it places no file at all
abbrev pub PlacesNone : Task → Type 0
PlacesNone task = (b : List ℕ) → PlacesElsewhere b (call_of task)

-- what each of them keeps from one moment to the next, done or refused, all of them keep
module _ (w : Way Files) (R : Files → Files → Type 0) (same : (s : Files) → R s s) (then : (a b c : Files) → R a b → R b c → R a c)
    (P : Task → Type 0) (one : (task : Task) → P task → (old new : Files) → w.done task old new ⊎ w.refused task old new → R old new) where
  pub across : (fault : Option RunFault) (tasks : List Task) → EachTask P tasks → (old new : Files) → DoneUntil w tasks old fault new → R old new
  across None [] each old new e = subst (R old) (sym e) (same old)
  across (Some f) [] each old new e = subst (R old) (sym e) (same old)
  across None (task ∷ tasks) each old new (mid, done, more) = then old mid new (one task each.0 old mid (inl done)) (across None tasks each.1 mid new more)
  across (Some f) (task ∷ tasks) each old new (inl refused) = one task each.0 old new (inr refused)
  across (Some f) (task ∷ tasks) each old new (inr (mid, done, more)) =
      then old mid new (one task each.0 old mid (inl done)) (across (Some f) tasks each.1 mid new more)

one_leaves : {spared : Spared} (task : Task) → PlacesNone task → (old new : Files) → Done spared task old new ⊎ TaskRefused spared task old new
    → KeepsHomes spared old new
one_leaves task off old new h = record {
  kept = λ b named. called_kept b named (off b) (elim h [ inl done ↦ done_moves task done | inr refused ↦ refused ]);
}

pub done_leaves : {spared : Spared} (fault : Option RunFault) (tasks : List Task) → EachTask PlacesNone tasks
    → (old new : Files) → DoneUntil (honestly spared) tasks old fault new → KeepsHomes spared old new
done_leaves {spared} = across (honestly spared) (KeepsHomes spared) leaves_none leaves_trans PlacesNone one_leaves

pub listings_place_none : (names : Listings) → EachTask PlacesNone (listing_tasks names)
listings_place_none names = ((λ b. tt), ((λ b. tt), ((λ b. tt), tt)))

removes_place_none : (names : List (List ℕ)) → EachTask PlacesNone (map (λ name. Do (Removing name)) names)
removes_place_none [] = tt
removes_place_none (name ∷ names) = ((λ b. tt), removes_place_none names)

pub sweep_places_none : (names : List (List ℕ)) → EachTask PlacesNone (sweep_of names)
sweep_places_none names = grind (arith, removes_place_none)

-- ---- the listings
pub record KnownByListings (spared : Spared) (names : Listings) (old new : Files) : Type 0 where
  pub within : TmpWithin spared names.tmp new
  pub few : SparesAll spared → length (filter is_converter_name names.tmp) ≤ leftover_count old
  pub knows : Knows spared (is_listed names.new names.cur) old

pub known_by_listings : {spared : Spared} {names : Listings} {old new : Files} → AllDone (honestly spared) (listing_tasks names) old new
    → KnownByListings spared names old new
known_by_listings {spared} {names} {old} (a, first, (b, second, (c, third, e))) = record {
  within =
      subst (TmpWithin spared names.tmp) (sym e)
      (listed_within third (listed_within second (listing_within first)));
  few = few_listed first;
  knows = λ base named. three_listings base named first second third;
}

pub listed_quietly : {names : Listings} {old new : Files} → AllDone quietly (listing_tasks names) old new → (new ≡ old) × IsPermutation names.tmp (keys old.tmp)
listed_quietly (a, first, (b, second, (c, third, e))) = (e ∙ third.0 ∙ second.0 ∙ first.0, first.1)

-- ---- the sweep
-- the task names converter's names alone
abbrev pub IsOurs : Task → Type 0
IsOurs task = OfConverter (call_of task)

pub sweep_ours : (names : List (List ℕ)) → EachTask IsOurs (sweep_of names)
sweep_ours [] = tt
sweep_ours (name ∷ names) =
    elim (is_converter_name name) as (λ t. is_converter_name name ≡ t
    → EachTask IsOurs (map (λ n. Do (Removing n)) (cond t (name ∷ filter is_converter_name names) (filter is_converter_name names)))) [
      | true ↦ λ e. (e, sweep_ours names)
      | false ↦ λ e. sweep_ours names
    ] refl

each_swept : {spared : Spared} (names : List (List ℕ)) {old new : Files}
    → TmpWithin spared names old → AllDone (honestly spared) (map (λ name. Do (Removing name)) names) old new → TmpWithin spared [] new
each_swept {spared} [] within e = subst (TmpWithin spared []) (sym e) within
each_swept (name ∷ names) {new} within (mid, one, more) = each_swept names (removing_within one within) more

pub all_swept : {spared : Spared} {names : List (List ℕ)} {old new : Files} → TmpWithin spared names old → AllDone (honestly spared) (sweep_of names) old new
    → TmpWithin spared [] new
all_swept {names} {old} {new} within =
    each_swept (filter is_converter_name names) (record {
      gone = λ q ours off.
          within.gone q ours
          (sym (any-filter_same (is_name q) is_converter_name true (λ k e. ap is_converter_name (sym (is_name-true q k e)) ∙ (and_parts _ _ ours).1) names) ∙
          off);
    })

-- ---- one message
pub record DeliveredMessage (spared : Spared) (m : Message) (old new : Files) : Type 0 where
  pub delivers : DeliversMessage spared m old new
  pub home : IsSpared spared m → IsHome new m
  pub within : TmpWithin spared [] old → TmpWithin spared [] new

module _ {spared : Spared} (m : Message) (is : IsTarget m.target) (old new : Files) (missing : IsSpared spared m → IsMissing old m) where
  pub delivered : AllDone (honestly spared) (delivery_of m.target m.body) old new → DeliveredMessage spared m old new
  delivered (mid, wrote, (end, put, e)) =
      let t = m.target in
      let w = write_ok is wrote missing in
      let home = place_home m is old mid end w put in
      subst (DeliveredMessage spared m old) (sym e) (record {
        delivers = place_delivers m is old mid end w (ok_moves put);
        home = home.0;
        within = home.1;
      })

  pub stopped_delivers : Stopped (honestly spared) (delivery_of m.target m.body) old new → DeliversMessage spared m old new
  stopped_delivers (inl h) = write_delivers is h missing
  stopped_delivers (inr (mid, wrote, inl h)) = place_delivers m is old mid new (write_ok is wrote missing) h
  stopped_delivers (inr (mid, wrote, inr (end, put, e))) = (delivered (mid, wrote, (end, put, e))).delivers

-- ---- messages, in order
-- how far a run has come, of whose messages these are done
pub record CameTo (spared : Spared) (all : List Message) (start now : Files) : Type 0 where
  pub done : List Message
  pub rest : List Message
  pub is : all ≡ done ++ rest
  pub progress : Progress spared done start now

module _ (spared : Spared) (start : Files) (is_there : List ℕ → Bool) (knows : Knows spared is_there start) where
  home_is : (t : Target) (shown : Bool) → IsTarget t → IsTrue (spared.bases t.base) → is_there t.base ≡ shown → has_home start t.base ≡ shown
  home_is t shown named sp e = sym (knows t.base (spared_named spared t.base sp named.named)) ∙ e

  as_shown : (w : Way Files) (m : Message) (shown : Bool) (old new : Files) → is_there m.target.base ≡ shown
      → AllDone w (delivery_if is_there m) old new → AllDone w (cond shown [] (delivery_of m.target m.body)) old new
  as_shown w m shown old new e h = rw e at h

  module _ (all : List Message) (distinct : AreDistinct all) (are : All (λ m. IsTarget m.target) all) (sound : AllSpared spared (IsSoundAt start) all) where
    at : (P : Message → Type 0) → All P all → (done ms : List Message) (m : Message) → all ≡ done ++ m ∷ ms → P m
    at P holds done ms m e = subst P (get_or-append_seam done m ms m) (subst (All P) e holds (length done) m (omega (arith, length-append done (m ∷ ms))))

    apart : (done ms : List Message) (m : Message) → all ≡ done ++ m ∷ ms → All (λ n. IsFalse (is_name m.target.base n.target.base)) done
    apart done ms m e = apart_prefix done m ms (subst AreDistinct e distinct)

    done_named : (done ms : List Message) → all ≡ done ++ ms → AreNamed done
    done_named done ms e = λ k d h.
        rw (get_or_append_left done ms d k h) at ((subst (All (λ m. IsTarget m.target)) e are k d (omega (arith, h, length-append done ms))).named)

    module _ (done ms : List Message) (m : Message) where
      missing_here : (now : Files) → all ≡ done ++ m ∷ ms → is_there m.target.base ≡ false → Progress spared done start now
          → IsSpared spared m → IsMissing now m
      missing_here now e off p sp =
          let is = at (λ m. IsTarget m.target) are done ms m e in
          still_missing done m start now (spared_named spared _ sp is.named) (apart done ms m e) p (none_of _ (home_is m.target false is sp off))

      home_here : (now : Files) → all ≡ done ++ m ∷ ms → is_there m.target.base ≡ true → Progress spared done start now
          → IsSpared spared m → IsHome now m
      home_here now e on p sp =
          let is = at (λ m. IsTarget m.target) are done ms m e in
          still_there done m start now (spared_named spared _ sp is.named) (apart done ms m e) p
          (home_known m start (home_is m.target true is sp on) (at (λ n. IsSpared spared n → IsSoundAt start n) sound done ms m e sp))

      next : all ≡ done ++ m ∷ ms → all ≡ (done ++ m ∷ []) ++ ms
      next e = e ∙ sym (append_assoc done (m ∷ []) ms)

      -- one message was done
      one_done : (old new : Files) → all ≡ done ++ m ∷ ms → Progress spared done start old → TmpWithin spared [] old
          → AllDone (honestly spared) (delivery_if is_there m) old new → Progress spared (done ++ m ∷ []) start new × TmpWithin spared [] new
      one_done old new e p within h =
          elim (cases_Bool (is_there m.target.base)) [
            | inl on ↦
                let same : new ≡ old = as_shown (honestly spared) m true old new on h in (
                  subst (Progress spared (done ++ m ∷ []) start) (sym same) (progress_home m (home_here old e on p) p),
                  subst (TmpWithin spared []) (sym same) within,
                )
            | inr off ↦
                let d =
                delivered m (at (λ m. IsTarget m.target) are done ms m e) old new (missing_here old e off p) (as_shown (honestly spared) m false old new off h)
                in
                (progress_delivered (done_named done (m ∷ ms) e) (apart done ms m e) d.delivers d.home p, d.within within)
          ]

    pub all_progress : (done ms : List Message) (old new : Files) → all ≡ done ++ ms → Progress spared done start old
        → TmpWithin spared [] old → AllDone (honestly spared) (deliveries_of is_there ms) old new → Progress spared all start new × TmpWithin spared [] new
    all_progress done [] old new e p within h =
        (rw (e ∙ append-nil done) (subst (Progress spared done start) (sym h) p), subst (TmpWithin spared []) (sym h) within)
    all_progress done (m ∷ ms) old new e p within h =
        let r = all_parts (honestly spared) _ _ old new h in
        let one = one_done done ms m old r.0 e p within r.1 in
        all_progress (done ++ m ∷ []) ms r.0 new (next done ms m e) one.0 one.1 r.2

    -- the run stopped at one message
    one_stopped : (done ms : List Message) (m : Message) (old new : Files) → all ≡ done ++ m ∷ ms
        → Progress spared done start old → Stopped (honestly spared) (delivery_if is_there m) old new → CameTo spared all start new
    one_stopped done ms m old new e p h =
        elim (cases_Bool (is_there m.target.base)) [
          | inl on ↦
              let same : new ≡ old = rw on at h in
              record { done = done; rest = m ∷ ms; is = e; progress = subst (Progress spared done start) (sym same) p }
          | inr off ↦
              let missing = missing_here done ms m old e off p in
              let delivers = stopped_delivers m (at (λ m. IsTarget m.target) are done ms m e) old new missing (rw off at h) in
              elim (progress_or_more (done_named done (m ∷ ms) e) (apart done ms m e) missing delivers p) [
                | inl q ↦ record { done = done; rest = m ∷ ms; is = e; progress = q }
                | inr q ↦ record { done = done ++ m ∷ []; rest = ms; is = next done ms m e; progress = q }
              ]
        ]

    pub stopped_came : (done ms : List Message) (old new : Files) → all ≡ done ++ ms → Progress spared done start old
        → TmpWithin spared [] old → Stopped (honestly spared) (deliveries_of is_there ms) old new → CameTo spared all start new
    stopped_came done [] old new e p within h = record { done = done; rest = []; is = e; progress = subst (Progress spared done start) (sym h) p }
    stopped_came done (m ∷ ms) old new e p within h =
        elim (stopped_parts (honestly spared) _ _ old new h) [
          | inl s ↦ one_stopped done ms m old new e p s
          | inr (mid, first, then) ↦
              let one = one_done done ms m old mid e p within first in
              stopped_came (done ++ m ∷ []) ms mid new (next done ms m e) one.0 one.1 then
        ]

  -- ---- and where the folder is quiet
  pub all_filled : SparesAll spared → (ms : List Message) → All (λ m. IsTarget m.target) ms → (old new : Files)
      → IsSwept spared old → AllDone quietly (deliveries_of is_there ms) old new → new ≡ filled start ms old
  all_filled every [] are old new free e = e
  all_filled every (m ∷ ms) are old new free h =
      let is = All-head (λ (x : Message). IsTarget x.target) m ms are in
      let more = All-tail (λ (x : Message). IsTarget x.target) m ms are in
      let t = m.target in
      let r = all_parts quietly _ _ old new h in
      let sp = every t.base is.named in
      let step : r.0 ≡ cond (has_home start t.base) old (added old t.place t.name m.body) =
      elim (cases_Bool (is_there t.base)) [
        | inl on ↦ as_shown quietly m true old r.0 on r.1 ∙ ap (λ b. cond b old (added old t.place t.name m.body)) (sym (home_is t true is sp on))
        | inr off ↦
            let d = as_shown quietly m false old r.0 off r.1 in
            let end = d.2 in
            (end.2 ∙ delivers_exact old t.base m.body t.place t.name d.1.1 end.1.1 (free t.base (base_name spared m is sp)))
            ∙ ap (λ b. cond b old (added old t.place t.name m.body)) (sym (home_is t false is sp off))
      ] in
      all_filled every ms more r.0 new
      (λ name ours. ap (λ s. get s.tmp name) step ∙ ap (λ x. get x name) (step_tmp (has_home start t.base) old m) ∙ free name ours) r.2
      ∙ ap (filled start ms) step

-- ---- other files
one_others : (task : Task) → IsOurs task → (old new : Files) → quietly.done task old new ⊎ quietly.refused task old new → KeepsForeign old new
one_others task ours old new h = grind (arith, others_same, effect_others, own_others)

pub done_others : (fault : Option RunFault) (tasks : List Task) → EachTask IsOurs tasks
    → (old new : Files) → DoneUntil quietly tasks old fault new → KeepsForeign old new
done_others = across quietly KeepsForeign others_same foreign_then IsOurs one_others

-- ---- what is touched
call_touched : (call : Call) → OfConverter call → (file : FileName) → Touches call file → IsTrue (is_converter_name file.name)
call_touched (Listing sub) ours file h = absurd h
call_touched (Writing own bytes) ours file h = rw h ours
call_touched (Placing own place target) ours file (inl h) = rw h ours.0
call_touched (Placing own place target) ours file (inr h) = rw h ours.1
call_touched (Removing own) ours file h = rw h ours

pub ours_touched : (tasks : List Task) → EachTask IsOurs tasks → (file : FileName) → OneTouches tasks file → IsTrue (is_converter_name file.name)
ours_touched [] each file h = absurd h
ours_touched (task ∷ tasks) each file (inl h) = call_touched (call_of task) each.0 file h
ours_touched (task ∷ tasks) each file (inr h) = ours_touched tasks each.1 file h
