-- What a run owes where it ends, from the tasks that it performed.
use Rattle.std.proofs.Common.{◌≡◌, ℕ, ◌+◌, ◌*◌, ◌<◌, ◌≤◌, ◌^◌, Bool, true, false, cond, Option, Some, None, List, [], ◌∷◌, ◌++◌, length, All, Result, Ok, arith}
use Rattle.std.proofs.Common.{Err, IfOk, OnOk, IsTrue, refl, sym, ap, subst, ◌∙◌, inl, inr, arith, append_assoc, length-append, IsErrOf, filter, append-nil}
use Rattle.maildir_run.proofs.Common.{length-map, All-head, All-tail, length-filter, count_by-le-length, IsAtEnd, Entry, Target}
use Rattle.maildir_run.proofs.Common.{is_converter_name, is_converter_base, RunFault, NoFromLine, TooManyReads, Report, swept, and_parts, IsSwept, get, filled}
use Rattle.maildir_run.proofs.Run.Conversions.{Conversion, ReportsTasks, run_tasks}
use Rattle.maildir_run.proofs.Common.{alone, Seen, Performed, sweep_of, delivery_of, delivery_if}
use Rattle.maildir_run.proofs.Common.{deliveries_of, fault_of, capped, HasCallNumber, CallNumber, Follows, Message, IsSoundAt, IsMissing}
use Rattle.maildir_run.proofs.Common.{Delivered, AreDistinct, has_home, there_count, leftover_count, Files, SourceStopped}
use Rattle.maildir_run.proofs.Common.{is_listed, TmpWithin, TouchedConverters, Knows, Progress, IsTarget, KeepsForeign, ReadsAtLeast, Possible, IsRun}
use Rattle.maildir_run.proofs.Common.{KeepsMessages}
use Rattle.maildir_run.proofs.Common.{CountsRun, Link, Runs, Mbox, Task, Performs, AllDone, Stopped, honestly, quietly, Listings}
use Rattle.maildir_run.proofs.Common.{listing_tasks, planned_tasks, Way, leaving, messages_of, bodies_of, MessagesOf, flat_map-append}
use Rattle.maildir_run.specs.Converting.{Converts}
use Rattle.maildir_run.proofs.Tasks.CallCounts.{run_counts}
use Rattle.maildir_run.proofs.Names.Maps.{is_name-true}
use Rattle.maildir_run.proofs.Chains.MessageLemmas.{text_named, text_distinct, text_targets, messages_distinct, messages_targets, length-messages_of}
use Rattle.maildir_run.proofs.Call.Cuts.{left_as}
use Rattle.maildir_run.proofs.Chains.Chains.{chain_delivered}
use Rattle.maildir_run.proofs.Source.PossibleMessages.{stands_keeps, prefix_stands, whole_text, given_of, none_done}
use Rattle.maildir_run.proofs.Tasks.QuietRuns.{swept_exact, swept_free}
use Rattle.maildir_run.proofs.Call.Steps.{leaves_trans}
use Rattle.maildir_run.proofs.Call.FolderListings.{filter-length}
use Rattle.maildir_run.proofs.Chains.BaseNumbers.{count-cons}
use Rattle.maildir_run.proofs.Tasks.PlanLemmas.{planned_are}
use Rattle.maildir_run.proofs.Tasks.Tasks.{stopped_before, honestly_stops, MayStop, leaving_stops}
use Rattle.maildir_run.proofs.Call.Touching.{touched_as}
use Rattle.maildir_run.proofs.Tasks.TaskEffects.{EachTask, each_of_both, PlacesNone, IsOurs, done_leaves, all_parts, stopped_parts}
use Rattle.maildir_run.proofs.Tasks.TaskEffects.{known_by_listings, listed_quietly, all_swept, sweep_ours, listings_place_none}
use Rattle.maildir_run.proofs.Tasks.TaskEffects.{sweep_places_none, all_progress, stopped_came, CameTo, all_filled, done_others, ours_touched}
use Rattle.maildir_run.proofs.Tasks.Firsts.{run_first}
use Rattle.maildir_run.proofs.Call.Homes.{spared_named}
use Rattle.maildir_run.proofs.Common.{Spared, SparesAll, all_bases, AllSpared, IsSpared}

-- ---- tasks that name converter's names alone
delivery_ours : {t : Target} (body : List ℕ) → IsTarget t → EachTask IsOurs (delivery_of t body)
delivery_ours {t} body is =
    let own : IsTrue (is_converter_name t.base) = ap is_converter_base (sym (is_name-true t.base _ is.whole)) ∙ is.named in
    let name : IsTrue (is_converter_name t.name) = ap is_converter_base (sym (is_name-true t.base _ is.under)) ∙ is.named in
    (own, ((own, name), tt))

deliveries_ours : (is_there : List ℕ → Bool) (ms : List Message) → All (λ m. IsTarget m.target) ms → EachTask IsOurs (deliveries_of is_there ms)
deliveries_ours is_there [] are = tt
deliveries_ours is_there (m ∷ ms) are =
    each_of_both IsOurs _ _
    (elim (is_there m.target.base) as (λ t. EachTask IsOurs
    (cond t [] (delivery_of m.target m.body))) [ true ↦ tt | false ↦ delivery_ours m.body (All-head (λ (x : Message). IsTarget x.target) m ms are) ])
    (deliveries_ours is_there ms (All-tail (λ (x : Message). IsTarget x.target) m ms are))

-- ---- how many they are
deliveries_count : (spared : Spared) (start : Files) (is_there : List ℕ → Bool) → Knows spared is_there start → (ms : List Message)
    → All (λ m. IsTarget m.target) ms → All (IsSpared spared) ms → length (deliveries_of is_there ms) + 2 * there_count (has_home start) ms ≡ 2 * length ms
deliveries_count spared start is_there knows [] are all = omega arith
deliveries_count spared start is_there knows (m ∷ ms) are all =
    let more = deliveries_count spared start is_there knows ms (All-tail (λ (x : Message). IsTarget x.target) m ms are) (All-tail (IsSpared spared) m ms all) in
    let is = All-head (λ (x : Message). IsTarget x.target) m ms are in
    let named = spared_named spared _ (All-head (IsSpared spared) m ms all) is.named in
    let count = count-cons (λ (x : Message). has_home start x.target.base) m ms (is_there m.target.base) (sym (knows m.target.base named)) in
    let parts = length-append (delivery_if is_there m) (deliveries_of is_there ms) in
    grind arith

pub sweep_count : (names : List (List ℕ)) → length (sweep_of names) ≡ length (filter is_converter_name names)
sweep_count names = grind (arith, length-map)

-- ---- the answers' numbers
pub ran_numbers : {A : Type 0} {tasks : List Task} {start now : Seen} {made made' : ℕ} {r : Result A RunFault}
    → Performed tasks start now made made' (fault_of r) → made ≡ 0 → length tasks < 2 ^ 66 → CallNumber r start.calls now.calls
ran_numbers {r} ran e few =
    let most = ran.most in
    record {
      n = ran.n;
      few = omega arith;
      count_is = ran.makes.count_is;
      call_number = subst (HasCallNumber (fault_of r)) (ran.makes.made_is 0 e ∙ ap capped (omega arith)) ran.call_number;
    }

-- ---- what the tasks of a run leave
early_none : (names : Listings) → EachTask PlacesNone (listing_tasks names ++ sweep_of names.tmp)
early_none names = grind (arith, each_of_both, sweep_places_none)

run_ours : (names : Listings) (ms : List Message) → All (λ m. IsTarget m.target) ms → EachTask IsOurs (run_tasks names ms)
run_ours names ms are = grind (arith, each_of_both, sweep_ours, deliveries_ours)

module _ (spared : Spared) (names : Listings) (ms : List Message) (distinct : AreDistinct ms) (are : All (λ m. IsTarget m.target) ms) (start : Files) where
  began : (mid now : Files) → AllDone (honestly spared) (listing_tasks names) start mid
      → AllDone (honestly spared) (sweep_of names.tmp) mid now → Progress spared [] start now × TmpWithin spared [] now
  began mid now first then = (
    none_done (leaves_trans start mid now (done_leaves None (listing_tasks names) (listings_place_none names) start mid first)
        (done_leaves None (sweep_of names.tmp) (sweep_places_none names.tmp) mid now then)),
    all_swept (known_by_listings first).within then,
  )

  come_to : (fault : RunFault) (now : Files) → Stopped (honestly spared) (run_tasks names ms) start now
      → AllSpared spared (IsSoundAt start) ms → CameTo spared ms start now
  come_to fault now h sound =
      let early = listing_tasks names ++ sweep_of names.tmp in
      let last = deliveries_of (is_listed names.new names.cur) ms in
      elim (stopped_parts (honestly spared) early last start now
      (subst (λ ts. Stopped (honestly spared) ts start now) (sym (append_assoc (listing_tasks names) (sweep_of names.tmp) last)) h))
      as (λ _. CameTo spared ms start now) [
        | inl s ↦ record { done = []; rest = ms; is = refl; progress = none_done (done_leaves (Some fault) early (early_none names) start now s) }
        | inr (mid, first, more) ↦
            let parts = all_parts (honestly spared) (listing_tasks names) (sweep_of names.tmp) start mid first in
            let b = began parts.0 mid parts.1 parts.2 in
            stopped_came spared start (is_listed names.new names.cur)
            (known_by_listings parts.1).knows ms distinct are sound [] ms mid now refl b.0 b.1 more
      ]

  stands : (now : Files) → Stopped (honestly spared) (run_tasks names ms) start now → AllSpared spared (IsSoundAt start) ms → (fault : RunFault)
      → KeepsMessages spared ms start (Err fault) now
  stands now h sound fault =
      let came = come_to fault now h sound in
      stands_keeps (prefix_stands came.rest (λ k d lt. (are k d lt).named) distinct sound came.is came.progress)

  pub keeps : (now : Files) (r : Result Report RunFault) → Performs (honestly spared) (run_tasks names ms) start r now
      → IfOk r (ReportsTasks names ms) → AllSpared spared (IsSoundAt start) ms → KeepsMessages spared ms start r now
  keeps now (Err fault) h tells sound = stands now h sound fault
  keeps now (Ok report) h tells sound =
      let one = all_parts (honestly spared) (listing_tasks names) (sweep_of names.tmp ++ deliveries_of (is_listed names.new names.cur) ms) start now h in
      let two = all_parts (honestly spared) (sweep_of names.tmp) (deliveries_of (is_listed names.new names.cur) ms) one.0 now one.2 in
      let b = began one.0 two.0 one.1 two.1 in
      let look = known_by_listings one.1 in
      let end = all_progress spared start (is_listed names.new names.cur) look.knows ms distinct are sound [] ms two.0 now refl b.0 b.1 two.2 in
      let s = prefix_stands [] (λ k d lt. (are k d lt).named) distinct sound (sym (append-nil ms)) end.0 in
      let count = deliveries_count spared start (is_listed names.new names.cur) look.knows ms are in
      let messages = tells.messages in
      let placed = tells.placed in
      record {
        sound = s.sound;
        still = s.still;
        in_order = s.in_order;
        ends = record {
          delivered = record { homes_are = end.0.homes_are; swept = λ name ours. end.1.gone name ours refl };
          reports = record {
            messages = messages;
            there = λ all. omega (arith, count all, tells.there);
            placed = λ all. omega (arith, count all);
            swept = λ all. omega (arith, look.few all, tells.swept, sweep_count names.tmp);
          };
        };
      }

  filled_all : SparesAll spared → (now : Files) (r : Result Report RunFault) → Performs (honestly spared) (run_tasks names ms) start r now
      → Performs quietly (run_tasks names ms) start r now → IfOk r (ReportsTasks names ms)
      → IfOk r (λ report. (now ≡ alone ms start) × (report.swept ≡ leftover_count start))
  filled_all every now (Err fault) performed h tells = tt
  filled_all every now (Ok report) performed h tells =
      let look = known_by_listings
      (all_parts (honestly spared) (listing_tasks names) (sweep_of names.tmp ++ deliveries_of (is_listed names.new names.cur) ms) start now performed).1 in
      let one = all_parts quietly (listing_tasks names) (sweep_of names.tmp ++ deliveries_of (is_listed names.new names.cur) ms) start now h in
      let two = all_parts quietly (sweep_of names.tmp) (deliveries_of (is_listed names.new names.cur) ms) one.0 now one.2 in
      let l = listed_quietly one.1 in
      let clean : two.0 ≡ swept start = grind (arith, swept_exact) in
      let free : IsSwept spared two.0 = λ name ours. ap (λ s. get s.tmp name) clean ∙ swept_free start name (and_parts _ _ ours).1 in (
        all_filled spared start (is_listed names.new names.cur) look.knows every ms are two.0 now free two.2 ∙ ap (filled start ms) clean,
        tells.swept ∙ sweep_count names.tmp ∙ filter-length is_converter_name l.1,
      )

-- a run after other runs
restarted : {spared : Spared} (r : Result Report RunFault) {t : List ℕ} {ms : List Message} (links : List Link) (first : Files) {start now : Files}
    → length t < 2 ^ 63
    → MessagesOf t ms → AllSpared spared (IsMissing first) ms → Runs spared t links first start → IsRun spared t start r now → OnOk r (Delivered spared ms now)
restarted {spared} (Ok report) {t} {ms} links first {start} {now} small of missing before run =
    chain_delivered spared t ms of (text_named t ms of small) links first start now report missing before run
restarted (Err fault) links first small of missing before run = tt

both_ok : {A E P : Type 0} {Q R : A → Type 0} (r : Result A E) → (P → (x : A) → Q x → R x) → OnOk r P → IfOk r Q → IfOk r R
both_ok r f p q = grind arith

-- ---- with these messages of those that a text has, which are all with Ok
module _ (names : Listings) (these more ms : List Message) (e : ms ≡ these ++ more) where
  planned_prefix : planned_tasks names ms ≡ run_tasks names these ++ deliveries_of (is_listed names.new names.cur) more
  planned_prefix = grind (arith, planned_are, flat_map-append, append_assoc)

  planned_performs : (w : Way Files) → MayStop w → (r : Result Report RunFault) → OnOk r (ms ≡ these) → (start now : Files)
      → Performs w (run_tasks names these) start r now → Performs w (planned_tasks names ms) start r now
  planned_performs w still (Ok x) same start now h = subst (λ ts. AllDone w ts start now) (sym (planned_are names ms ∙ ap (run_tasks names) same)) h
  planned_performs w still (Err fault) same start now h =
      subst (λ ts. Stopped w ts start now) (sym planned_prefix)
      (stopped_before w still (run_tasks names these) (deliveries_of (is_listed names.new names.cur) more) start now h)

-- the calls are those of the report
calls_made : {names : Listings} (ms : List Message) {start now : Seen} {made made' : ℕ} (r : Result Report RunFault)
    → Performed (run_tasks names ms) start now made made' (fault_of r)
    → IfOk r (ReportsTasks names ms) → IfOk r (λ report. CountsRun report start.calls now.calls)
calls_made ms (Err fault) ran tells = tt
calls_made {names} ms {start} {now} {made} {made'} (Ok report) ran tells =
    let placed = tells.placed in
    let all_made : ran.n ≡ 3 + length (sweep_of names.tmp) + 2 * report.placed = grind (arith, length-append) in
    run_counts report tells.swept refl (rw all_made at ran.makes)

-- ---- how many the tasks are
deliveries_most : (is_there : List ℕ → Bool) (ms : List Message) → length (deliveries_of is_there ms) ≤ 2 * length ms
deliveries_most is_there [] = omega arith
deliveries_most is_there (m ∷ ms) =
    grind (arith, deliveries_most is_there ms, length-append (delivery_if is_there m) (deliveries_of is_there ms), delivery_of m.target m.body)

few_tasks : (names : Listings) (bodies : List (List ℕ)) → length names.tmp < 2 ^ 64
    → length bodies ≤ 2 ^ 63 → length (run_tasks names (messages_of bodies)) < 2 ^ 66
few_tasks names bodies small few = grind (arith, deliveries_most, length-messages_of, length-append, sweep_count, length-filter, count_by-le-length)

-- ---- what a run owes, from what it was given and the tasks that it performed
module _ {before after : Option (List ℕ)} {reads : ℕ} {start now : Seen} {r : Result Report RunFault}
    (most : reads ≤ 2 ^ 40) (honest_of : start.quiet → start.honest all_bases) (run : Conversion before after reads start now r) where
  bodies : List (List ℕ)
  bodies = bodies_of run.given

  few_bodies : length (bodies_of run.given) ≤ 2 ^ 63
  few_bodies = omega (arith, run.prefix.few, run.prefix.budget, length-map run.given (λ (e : Entry). e.body))

  given_here : (t : List ℕ) (ms : List Message) → Possible before after t → MessagesOf t ms
      → (more : List Message) × (ms ≡ messages_of (bodies_of run.given) ++ more) × OnOk r (ms ≡ messages_of (bodies_of run.given))
  given_here = given_of r run.prefix run.whole

  module _ (spared : Spared) (h : start.honest spared) (t : List ℕ) (ms : List Message) (p : Possible before after t) (of : MessagesOf t ms) where
    performs_here : Performs (honestly spared) (planned_tasks run.names ms) start.files r now.files
    performs_here =
        let g = given_here t ms p of in
        planned_performs run.names (messages_of (bodies_of run.given)) g.0 ms g.1 (honestly spared) honestly_stops r g.2 start.files now.files
        (run.ran.done_honestly spared h)

    owes_planned : (names : Listings) × Performs (honestly spared) (planned_tasks names ms) start.files r now.files
    owes_planned = (run.names, performs_here)

    owes_left : Follows (λ old new. (names : Listings) × Performs (leaving spared) (planned_tasks names ms) old r new) start.may_leave now.may_leave
    owes_left =
        let g = given_here t ms p of in
        left_as _ _ start.may_leave now.may_leave
        (λ old new q. (
          run.names,
          planned_performs run.names (messages_of (bodies_of run.given)) g.0 ms g.1 (leaving spared) leaving_stops r g.2 old new
              (run_first spared run.names (messages_of (bodies_of run.given)) (messages_targets (bodies_of run.given) few_bodies)
              (messages_distinct (bodies_of run.given) few_bodies) (fault_of r) (start.files, old) (now.files, new) q),
        ))
        (run.ran.left spared h)

  owes_run : (spared : Spared) → start.honest spared → (t : List ℕ) → length t < 2 ^ 63 → Possible before after t → IsRun spared t start.files r now.files
  owes_run spared h t small p = record {
    keeps = λ ms of sound.
        keeps spared run.names ms (text_distinct t ms of small) (text_targets t ms of small)
        start.files now.files r (rw (planned_are run.names ms) at (performs_here spared h t ms p of))
        (both_ok r (λ (same : ms ≡ messages_of (bodies_of run.given)) report tells. rw same tells) (given_here t ms p of).2 run.tells) sound;
    is_read = grind (arith, whole_text);
  }

  owes_restart : (spared : Spared) → start.honest spared → (t : List ℕ) (ms : List Message) (links : List Link) (first : Files) → length t < 2 ^ 63
      → Possible before after t → MessagesOf t ms → AllSpared spared (IsMissing first) ms → Runs spared t links first start.files
      → OnOk r (Delivered spared ms now.files)
  owes_restart spared h t ms links first small p of missing before = restarted r links first small of missing before (owes_run spared h t small p)

  owes_alone : start.quiet → (t : List ℕ) (ms : List Message) → Possible before after t
      → MessagesOf t ms → IfOk r (λ report. (now.files ≡ alone ms start.files) × (report.swept ≡ leftover_count start.files))
  owes_alone q t ms p of =
      both_ok r (λ (same : ms ≡ messages_of (bodies_of run.given)) report (alone_is : (now.files ≡ alone (messages_of (bodies_of run.given)) start.files)
      × (report.swept ≡ leftover_count start.files)).
      (grind arith, alone_is.1)) (given_here t ms p of).2
      (filled_all all_bases run.names (messages_of (bodies_of run.given)) (messages_distinct (bodies_of run.given) few_bodies)
      (messages_targets (bodies_of run.given) few_bodies) start.files (λ b named. refl) now.files r (run.ran.done_honestly all_bases (honest_of q))
      (run.ran.done_quietly q) run.tells)

  ours : EachTask IsOurs (run_tasks run.names (messages_of (bodies_of run.given)))
  ours = run_ours run.names _ (messages_targets _ few_bodies)

  owes_others : start.quiet → KeepsForeign start.files now.files
  owes_others q = done_others (fault_of r) (run_tasks run.names (messages_of (bodies_of run.given))) ours start.files now.files (run.ran.done_quietly q)

  owes_touches : TouchedConverters start.touched now.touched
  owes_touches = touched_as (ours_touched (run_tasks run.names (messages_of (bodies_of run.given))) ours) run.ran.touches

  owes_calls : IfOk r (λ report. CountsRun report start.calls now.calls)
  owes_calls = calls_made _ r run.ran run.tells

  owes_numbers : CallNumber r start.calls now.calls
  owes_numbers = ran_numbers run.ran refl (few_tasks _ _ run.few few_bodies)

  -- ---- and of its source
  owes_end : OnOk r (IsAtEnd after)
  owes_end = grind arith

  refused_as : (fault : RunFault) → IsErrOf r fault → SourceStopped before after reads fault
  refused_as fault e = grind arith

  owes_unread : IsErrOf r NoFromLine → (t : List ℕ) (entries : List Entry) → Possible before after t → ¬ Mbox t entries
  owes_unread e = (refused_as NoFromLine e).unreadable refl

  owes_spent : IsErrOf r TooManyReads → ReadsAtLeast before after reads
  owes_spent e = (refused_as TooManyReads e).spent refl

  -- ---- all of it
  pub converts : Converts before after reads start now r
  converts = record {
    honest = run.ran.honest;
    as_planned = owes_planned;
    left = owes_left;
    still_rooted = run.ran.still_rooted;
    touches = owes_touches;
    owes = owes_run;
    restartable = owes_restart;
    quiet = run.ran.quiet;
    alone = owes_alone;
    others = owes_others;
    calls = owes_calls;
    cause = run.ran.cause;
    call_number = owes_numbers;
    end = owes_end;
    budget = grind arith;
    untouched = run.untouched;
    no_from_line = owes_unread;
    spent = owes_spent;
    causes = run.causes;
  }
