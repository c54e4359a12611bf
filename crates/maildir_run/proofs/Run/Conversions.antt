-- A run at its exits, from its parts.
use Rattle.std.proofs.Common.{◌≡◌, ℕ, ◌+◌, ◌-◌, ◌*◌, ◌<◌, ◌≤◌, ◌^◌, Option, Some, None, List, arith}
use Rattle.std.proofs.Common.{[], ◌++◌, length, Result, IfErr, IfOk, IsErrOf, OnOk, refl, IsErrAnd, ◌⊎◌, inl}
use Rattle.maildir_run.proofs.Common.{contains_key, length-map, Engine, Entry, Named, RunFault, NoFromLine, Report, BaseSet}
use Rattle.maildir_run.proofs.Common.{Seen, Performed, DeliversMessages, sweep_of, fault_of}
use Rattle.maildir_run.proofs.Common.{messages_after, deliveries_of, IsOfFolder, Message, GaveAll, IsPrefixOf}
use Rattle.maildir_run.proofs.Common.{SourceStopped, StoppedAfter, is_listed, IsReading, Task, Listings, listing_tasks, messages_of, bodies_of}
use Rattle.std.proofs.lemmas.Result.{err_from_is_err_and}
use Rattle.maildir_run.proofs.Run.Delivering.{delivers_then}
use Rattle.maildir_run.proofs.Run.Batches.{all_messages}
use Rattle.maildir_run.proofs.Chains.MessageLemmas.{length-messages_of}
use Rattle.maildir_run.proofs.Source.PossibleMessages.{batch_bodies, batch_few}
use Rattle.maildir_run.proofs.Tasks.Tasks.{ran_nothing, ran_then}

-- ---- a run
-- the listings, the sweep and these messages
abbrev pub run_tasks : Listings → List Message → List Task
run_tasks names ms = listing_tasks names ++ (sweep_of names.tmp ++ deliveries_of (is_listed names.new names.cur) ms)

-- the report is true of these tasks
pub record ReportsTasks (names : Listings) (ms : List Message) (report : Report) : Type 0 where
  pub messages : report.messages ≡ length ms
  pub there : report.there ≡ report.messages - report.placed
  pub placed : 2 * report.placed ≡ length (deliveries_of (is_listed names.new names.cur) ms)
  pub swept : report.swept ≡ length (sweep_of names.tmp)

-- A run was given these first messages of its source, all of them with Ok, and performed the tasks of a run over them: all with Ok, else a prefix.
pub record Conversion (before now : Option (List ℕ)) (reads : ℕ) (old new : Seen) (result : Result Report RunFault) : Type 0 where
  pub given : List Entry
  pub prefix : IsPrefixOf before now reads given
  pub whole : OnOk result (GaveAll before now reads given)
  pub refused : IfErr result (SourceStopped before now reads)
  pub untouched : IsErrOf result NoFromLine → new.calls ≡ old.calls
  pub causes : IfErr result (λ fault. IsReading fault ⊎ IsOfFolder fault)
  pub names : Listings
  pub few : length names.tmp < 2 ^ 64
  pub made : ℕ
  pub ran : Performed (run_tasks names (messages_of (bodies_of given))) old new 0 made (fault_of result)
  pub tells : IfOk result (ReportsTasks names (messages_of (bodies_of given)))

-- ---- at a fault
module _ {before now : Option (List ℕ)} {reads : ℕ} {old new : Seen} {r : Result Report RunFault} {fault : RunFault} (is : IsErrAnd r (λ e. e ≡ fault)) where
  pub stops : SourceStopped before now reads fault → IsReading fault ⊎ IsOfFolder fault → (fault ≡ NoFromLine → new.calls ≡ old.calls) → (given : List Entry)
      → IsPrefixOf before now reads given → (names : Listings) → length names.tmp < 2 ^ 64 → (begun made : ℕ) → begun ≡ 0
      → Performed (run_tasks names (messages_of (bodies_of given))) old new begun made (Some fault) → Conversion before now reads old new r
  stops refused cause untouched given prefix names few begun made none ran = grind (arith, err_from_is_err_and r is)

  -- the fault of a folder call, or of an allocation
  pub stops_in_folder : IsOfFolder fault → (given : List Entry) → IsPrefixOf before now reads given
      → (names : Listings) → length names.tmp < 2 ^ 64 → (begun made : ℕ) → begun ≡ 0
      → Performed (run_tasks names (messages_of (bodies_of given))) old new begun made (Some fault) → Conversion before now reads old new r
  stops_in_folder of given prefix = grind (arith)

-- before anything was done
pub stops_unread : {before now : Option (List ℕ)} {reads : ℕ} {s : Seen} {r : Result Report RunFault} {fault : RunFault}
    → IsErrAnd r (λ e. e ≡ fault) → IsReading fault → StoppedAfter before now reads [] fault → Conversion before now reads s s r
stops_unread {before} {now} {reads} {s} {r} {fault} is reading stop =
    let names : Listings = record { tmp = []; new = []; cur = [] } in
    stops is stop.refused (inl reading) (λ e. refl) [] stop.prefix names (omega arith) 0 0 refl
    (ran_nothing reading)

-- ---- the set of bases tells what was listed
pub tells_listed : (there : BaseSet) (new cur : List (List ℕ)) (names : Listings) (bodies : List (List ℕ))
    → ((b : List ℕ) → contains_key there b ≡ is_listed new cur b) → new ≡ names.new → cur ≡ names.cur
    → deliveries_of (contains_key there) (messages_after [] bodies) ≡ deliveries_of (is_listed names.new names.cur) (messages_of bodies)
tells_listed there new cur names bodies told new_is cur_is = grind (arith, all_messages)

-- ---- the listings, the sweep and some messages
pub all_ran : {tasks : List Task} {tmp : List (List ℕ)} {a b c d : Seen} {made mid swept begun made' : ℕ} {fault : Option RunFault}
    (names : Listings) (ms : List Message) → made ≡ 0 → tmp ≡ names.tmp → begun ≡ swept → tasks ≡ deliveries_of (is_listed names.new names.cur) ms
    → Performed (listing_tasks names) a b made mid None → Performed (sweep_of tmp) b c mid swept None
    → Performed tasks c d begun made' fault → Performed (run_tasks names ms) a d 0 made' fault
all_ran names ms none tmp_is begun_is tasks_are look sweep deliver =
    ran_then (rw none at look) (ran_then (rw tmp_is at sweep) (rw (tasks_are, begun_is) at deliver))

-- one more batch
pub one_batch : {a b c : Seen} {run mid run' : Engine} {fault : Option RunFault} (given whole entries : List Entry) (reads : ℕ)
    → entries ≡ whole → length (given ++ whole) ≤ 65536 * reads → reads ≤ 2 ^ 40 → DeliversMessages [] (bodies_of given) a b run mid None
    → ((bodies : List (List ℕ)) → Named bodies mid.namer → length bodies + length entries ≤ 2 ^ 63
    → DeliversMessages bodies (bodies_of entries) b c mid run' fault) → DeliversMessages [] (bodies_of (given ++ whole)) a c run run' fault
one_batch given whole entries reads e few most first then =
    rw (batch_bodies given e) at (delivers_then first (then (bodies_of given) (first.named refl) (batch_few given e few most)))

pub report_tells : (names : Listings) (all : List Entry) (report : Report) (tasks : List Task) (messages placed before : ℕ)
    → tasks ≡ deliveries_of (is_listed names.new names.cur) (messages_of (bodies_of all)) → messages ≡ length all
    → before ≡ 0 → 2 * placed ≡ 2 * before + length tasks → report.messages ≡ messages → report.there ≡ messages - placed
    → report.placed ≡ placed → report.swept ≡ length (sweep_of names.tmp) → ReportsTasks names (messages_of (bodies_of all)) report
report_tells names all report tasks messages placed before is count none delivers e1 e2 e3 e4 = grind (arith, length-messages_of, length-map)
