-- What one run owes, and chains of runs, with any answers, and other programs' actions.
use Rattle.std.specs.Prelude.{◌≡◌, Bool, ℕ, ◌+◌, ◌*◌, ◌-◌, ◌%◌, ◌^◌, ◌≤◌, List, [], ◌∷◌, ◌++◌, length, All, AllPairs, IfOk, OnOk, Option, Some, Result}
use Rattle.mbox_text.specs.declared.entry.Entry.{Entry}
use Rattle.mbox_text.specs.Mbox.{Mbox}
use Rattle.maildir_run.specs.declared.fault.RunFault.{RunFault}
use Rattle.maildir_run.specs.declared.report.Report.{Report}
use Rattle.maildir_run.specs.Files.{Spared, SparesAll, Files, Action, acted}
use Rattle.maildir_run.specs.Delivery.{Message, HasHome, IsMissing, IsSoundAt, IsSpared, AllSpared, Sound, Delivered, has_home, there_count, leftover_count}
use Rattle.maildir_run.specs.Texts.{MessagesOf}

-- A text is possible for a call that read from a source: what was read is a prefix of it, and all of it if the source has
-- nothing left. The arguments are what the source has left before the call and after it, with what it failed to return.
pub record Possible (before after : Option (List ℕ)) (t : List ℕ) : Type 0 where
  pub read : List ℕ
  pub left : List ℕ
  pub more : List ℕ
  pub had : before ≡ Some (read ++ left)
  pub has : after ≡ Some left
  pub prefix : t ≡ read ++ more
  pub whole : left ≡ [] → more ≡ []

-- A report is true of a run over these messages. `has` tells which bases had a home as the run began; `tmp` had at most so many leftovers then.
pub record IsReportOf (spared : Spared) (has : List ℕ → Bool) (leftovers : ℕ) (ms : List Message) (report : Report) : Type 0 where
  pub messages : report.messages ≡ length ms
  -- if all messages are spared
  pub there : All (IsSpared spared) ms → report.there ≡ there_count has ms
  pub placed : All (IsSpared spared) ms → report.placed ≡ length ms - there_count has ms
  -- if every converter's base is spared
  pub swept : SparesAll spared → report.swept ≤ leftovers

-- of a run from these files
abbrev pub ReportsMessages : Spared → List Message → Files → Report → Type 0
ReportsMessages spared ms old = IsReportOf spared (has_home old) (leftover_count old) ms

-- A run over these messages ended with Ok: they are delivered, and the report is true.
pub record EndedWell (spared : Spared) (ms : List Message) (old : Files) (report : Report) (new : Files) : Type 0 where
  pub delivered : Delivered spared ms new
  pub reports : ReportsMessages spared ms old report

-- What a run over these messages owes, whatever it answered.
pub record KeepsMessages (spared : Spared) (ms : List Message) (old : Files) (answer : Result Report RunFault) (new : Files) : Type 0 where
  -- the folder is sound, as against the run's start
  pub sound : Sound spared ms old new
  -- a message that had a home has one
  pub still : AllSpared spared (λ m. HasHome old m → HasHome new m) ms
  -- a message comes only after all messages before it
  pub in_order : AllPairs (λ m n. IsSpared spared m → IsSpared spared n → IsMissing old n → HasHome new n → HasHome new m) ms
  pub ends : IfOk answer (λ report. EndedWell spared ms old report new)

-- One run over a text, starting from a folder where each message that is spared is missing or correctly delivered:
-- it keeps what it owes to the messages, and with Ok the text is in `Mbox`.
pub record IsRun (spared : Spared) (t : List ℕ) (old : Files) (answer : Result Report RunFault) (new : Files) : Type 0 where
  pub keeps : (ms : List Message) → MessagesOf t ms → AllSpared spared (IsSoundAt old) ms → KeepsMessages spared ms old answer new
  pub is_read : OnOk answer ((entries : List Entry) × Mbox t entries)

-- the calls of a run that answered Ok: three listings, one removal for each swept name,
-- and a write and a placement for each placed message; the count has 128 bits
abbrev pub CountsRun : Report → ℕ → ℕ → Type 0
CountsRun report old new = new % 2 ^ 128 ≡ (old + (3 + report.swept + 2 * report.placed)) % 2 ^ 128

-- a finite chain of links, each from one moment to the next
abbrev pub Chain : {L S : Type 0} → (L → S → S → Type 0) → List L → S → S → Type 0
Chain step [] old new = new ≡ old
Chain {L} {S} step (link ∷ links) old new = (mid : S) × step link old mid × Chain step links mid new

-- a link of a chain: a run with this answer, or an action of another program
pub data Link : Type 0 where
  Ran : (answer : Result Report RunFault) → Link
  Acted : (action : Action) → Link

-- a link leads from one moment to another
abbrev pub Linked : Spared → List ℕ → Link → Files → Files → Type 0
Linked spared t (Ran answer) old new = IsRun spared t old answer new
Linked spared t (Acted action) old new = new ≡ acted spared action old

-- a finite chain of runs over a text, with any answers, and of other programs' actions
abbrev pub Runs : Spared → List ℕ → List Link → Files → Files → Type 0
Runs spared t = Chain (Linked spared t)
