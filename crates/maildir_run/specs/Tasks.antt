-- What a run did with its folder: planned calls, in order, up to the first that failed.
use Rattle.std.specs.Prelude.{◌≡◌, ℕ, ◌⊎◌, List, [], ◌∷◌, ◌++◌, map, take, drop, Option, Some, None, Result}
use Rattle.std.specs.List.{flat_map}
use Rattle.maildir_run.specs.declared.folder.Sub.{Sub}
use Rattle.maildir_run.specs.declared.folder.Sub.TheVariants.{Tmp, New, Cur}
use Rattle.maildir_run.specs.declared.planner.Step.{Step}
use Rattle.maildir_run.specs.declared.planner.Step.TheVariants.{Remove, Write, Place}
use Rattle.maildir_run.specs.Calls.{Call, Listing, Writing, Placing, Removing, Succeeded, AnyMoves, Lists}
use Rattle.maildir_run.specs.Cuts.{Leaves, IsFoundWhole, FindsNone}
use Rattle.maildir_run.specs.Counting.{fault_of}
use Rattle.maildir_run.specs.Delivery.{Message}
use Rattle.maildir_run.specs.Files.{Spared, Files}
use Rattle.maildir_run.specs.Plan.{planned}

-- a call that a run makes; a listing with the names that it answers
pub data Task : Type 0 where
  Ask : (sub : Sub) → (names : List (List ℕ)) → Task
  Do : (call : Call) → Task

-- the call of a task
abbrev pub call_of : Task → Call
call_of (Ask sub names) = Listing sub
call_of (Do call) = call

-- the task's call answered Ok, in an honest folder
abbrev pub Done : Spared → Task → Files → Files → Type 0
Done spared (Ask sub names) old new = Lists spared sub old names new
Done spared (Do call) old new = Succeeded spared call old new

-- the task's call failed, or was not made
abbrev pub TaskRefused : Spared → Task → Files → Files → Type 0
TaskRefused spared task old new = AnyMoves spared (call_of task) old new

-- how tasks succeed or fail, from one moment to the next
pub record Way (S : Type 0) : Type 1 where
  pub done : Task → S → S → Type 0
  pub refused : Task → S → S → Type 0

-- how tasks succeed or fail in an honest folder
abbrev pub honestly : Spared → Way Files
honestly spared = record { done = Done spared; refused = TaskRefused spared }

-- what a power cut leaves of a task that succeeded
abbrev pub LeavesDone : Spared → Task → Files → Files → Type 0
LeavesDone spared task old new = Leaves spared (call_of task) old new × IsFoundWhole spared (call_of task) new

-- what a power cut leaves of a task that failed; nothing if its call was not made
abbrev pub LeavesRefused : Spared → Task → Files → Files → Type 0
LeavesRefused spared task old new = (new ≡ old) ⊎ (Leaves spared (call_of task) old new × FindsNone spared (call_of task) old)

-- how tasks succeed or fail in what a power cut leaves: what is placed is the first file of its base
abbrev pub leaving : Spared → Way Files
leaving spared = record {
  done = λ task old new. LeavesDone spared task old new × FindsNone spared (call_of task) old;
  refused = LeavesRefused spared;
}

-- all tasks succeeded, in order
abbrev pub AllDone : {S : Type 0} → Way S → List Task → S → S → Type 0
AllDone w [] old new = new ≡ old
AllDone {S} w (task ∷ tasks) old new = (mid : S) × w.done task old mid × AllDone w tasks mid new

-- a prefix of the tasks succeeded, and the next failed or was not made
abbrev pub Stopped : {S : Type 0} → Way S → List Task → S → S → Type 0
Stopped w [] old new = new ≡ old
Stopped {S} w (task ∷ tasks) old new = w.refused task old new ⊎ ((mid : S) × w.done task old mid × Stopped w tasks mid new)

-- all tasks if there is no fault, else a prefix of them
abbrev pub DoneUntil : {S E : Type 0} → Way S → List Task → S → Option E → S → Type 0
DoneUntil w tasks old None new = AllDone w tasks old new
DoneUntil w tasks old (Some _) new = Stopped w tasks old new

-- all tasks after Ok, else a prefix of them
abbrev pub Performs : {S A E : Type 0} → Way S → List Task → S → Result A E → S → Type 0
Performs w tasks old result new = DoneUntil w tasks old (fault_of result) new

-- ---- the tasks of a run
-- three lists of names
pub record Listings : Type 0 where
  pub tmp : List (List ℕ)
  pub new : List (List ℕ)
  pub cur : List (List ℕ)

-- `new` before `cur`, since a mail reader moves files from the one to the other
abbrev pub listing_tasks : Listings → List Task
listing_tasks names = Ask Tmp names.tmp ∷ Ask New names.new ∷ Ask Cur names.cur ∷ []

-- the calls of a step of a plan, where a step's number is that of one of these messages
abbrev pub task_of : List Message → Step → List Task
task_of ms (Remove name) = Do (Removing name) ∷ []
task_of ms (Write i) = map (λ m. Do (Writing m.target.base m.body)) (take 1 (drop i ms))
task_of ms (Place i) = map (λ m. Do (Placing m.target.base m.target.place m.target.name)) (take 1 (drop i ms))

-- the calls of a plan
abbrev pub tasks_of : List Message → List Step → List Task
tasks_of ms steps = flat_map (task_of ms) steps

-- the plan for these messages: the three listings, and the steps for the names that they answered
abbrev pub planned_tasks : Listings → List Message → List Task
planned_tasks names ms = listing_tasks names ++ tasks_of ms (planned names.tmp names.new names.cur (map (λ m. m.target) ms))
