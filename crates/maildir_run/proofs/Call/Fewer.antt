-- What is said where more are spared holds where fewer are.
use Rattle.std.proofs.Common.{◌≡◌, ℕ, List, [], ◌∷◌, All, Result, refl, sym, ap, ◌∙◌, IsTrue, IfOk, Ok, Err}
use Rattle.maildir_run.proofs.Common.{Spared, is_spared, and_parts, base, Files, Action, acted, all_acted, Call, Move, Other, Again, moved}
use Rattle.maildir_run.proofs.Common.{Came, Leaves, left_after, Message, AllSpared, IsSpared}
use Rattle.maildir_run.proofs.Common.{IsSoundAt, IsHome, HasHome, Sound, Delivered, KeepsMessages, Report, RunFault, IsRun, MessagesOf}
use Rattle.maildir_run.specs.Calls.{Torn}
use Rattle.maildir_run.specs.Cuts.{AreWhole, CutMove, Doubled, doubled}
use Rattle.maildir_run.specs.Files.{AreFewer}
use Rattle.maildir_run.specs.Runs.{EndedWell, ReportsMessages}
use Rattle.maildir_run.proofs.Call.Outsiders.{fewer_spared}

-- some moves, each of which another move does too where fewer are spared
module _ {M : Type 0} (does does' : M → Files → Files) (each : (move : M) (s : Files) → (other : M) × (does' other s ≡ does move s)) where
  pub record LeftAlike (kept : List (CutMove M)) (s : Files) : Type 0 where
    pub others : List (CutMove M)
    pub are : left_after does' s others ≡ left_after does s kept
    pub whole : AreWhole kept → AreWhole others

  pub fewer_left : (kept : List (CutMove M)) (s : Files) → LeftAlike kept s
  fewer_left [] s = record { others = []; are = refl; whole = λ w. w }
  fewer_left (Came move ∷ kept) s =
      let one = each move s in
      let rest = fewer_left kept (does move s) in
      record { others = Came one.0 ∷ rest.others; are = ap (λ x. left_after does' x rest.others) one.1 ∙ rest.are; whole = rest.whole }
  fewer_left (Doubled action ∷ kept) s =
      let rest = fewer_left kept (doubled action s) in
      record { others = Doubled action ∷ rest.others; are = rest.are; whole = λ w. absurd w }

module _ {fewer more : Spared} (within : AreFewer fewer more) where
  pub spared_too : (b : List ℕ) → IsTrue (is_spared fewer b) → IsTrue (is_spared more b)
  spared_too b sp = let parts = and_parts _ _ sp in rw (within.bases b parts.0, parts.1) refl

  -- ---- what other programs do
  pub fewer_acted : (actions : List Action) (s : Files) → (others : List Action) × (all_acted fewer others s ≡ all_acted more actions s)
  fewer_acted [] s = ([], refl)
  fewer_acted (action ∷ actions) s =
      let one = fewer_spared more fewer within.bases action s in
      let rest = fewer_acted actions (acted more action s) in
      (one.0 ∷ rest.0, ap (all_acted fewer rest.0) one.1 ∙ rest.1)

  -- ---- what a power cut leaves of a call
  fewer_moved : (call : Call) (move : Move) (s : Files) → (other : Move) × (moved fewer call other s ≡ moved more call move s)
  fewer_moved call (Other action) s = let one = fewer_spared more fewer within.bases action s in (Other one.0, one.1)
  fewer_moved call Again s = (Again, refl)
  fewer_moved call (Torn bytes) s = (Torn bytes, refl)

  pub fewer_leaves : {call : Call} {before now : Files} → Leaves more call before now → Leaves fewer call before now
  fewer_leaves {call} {before} h =
      let alike = fewer_left (moved more call) (moved fewer call) (fewer_moved call) h.kept before in
      record { kept = alike.others; are = h.are ∙ sym alike.are; whole = λ is. alike.whole (h.whole (within.whole is)) }

  -- ---- what a run owes
  pub fewer_all : (P : Message → Type 0) (ms : List Message) → AllSpared more P ms → AllSpared fewer P ms
  fewer_all P ms h i d below sp = h i d below (within.bases _ sp)

  fewer_sound : (ms : List Message) (old new : Files) → Sound more ms old new → Sound fewer ms old new
  fewer_sound ms old new h = record { own = fewer_all (IsSoundAt new) ms h.own; others = λ b sp. h.others b (spared_too b sp) }

  fewer_delivered : (ms : List Message) (s : Files) → Delivered more ms s → Delivered fewer ms s
  fewer_delivered ms s h = record { homes_are = fewer_all (IsHome s) ms h.homes_are; swept = λ name sp. h.swept name (spared_too (base name) sp) }

  all_too : (ms : List Message) → All (IsSpared fewer) ms → All (IsSpared more) ms
  all_too ms h i d below = within.bases _ (h i d below)

  fewer_reports : (ms : List Message) (old : Files) (report : Report) → ReportsMessages more ms old report → ReportsMessages fewer ms old report
  fewer_reports ms old report h = record {
    messages = h.messages;
    there = λ all. h.there (all_too ms all);
    placed = λ all. h.placed (all_too ms all);
    swept = λ all. h.swept (λ b is. within.bases b (all b is));
  }

  fewer_ends : (ms : List Message) (old : Files) (answer : Result Report RunFault) (new : Files)
      → IfOk answer (λ report. EndedWell more ms old report new) → IfOk answer (λ report. EndedWell fewer ms old report new)
  fewer_ends ms old (Ok report) new h = record { delivered = fewer_delivered ms new h.delivered; reports = fewer_reports ms old report h.reports }
  fewer_ends ms old (Err fault) new h = tt

  pub fewer_kept : (ms : List Message) (old new : Files) (answer : Result Report RunFault) → KeepsMessages more ms old answer new
      → KeepsMessages fewer ms old answer new
  fewer_kept ms old new answer h = record {
    sound = fewer_sound ms old new h.sound;
    still = fewer_all (λ m. HasHome old m → HasHome new m) ms h.still;
    in_order = λ i j d lt below sp sp'. h.in_order i j d lt below (within.bases _ sp) (within.bases _ sp');
    ends = fewer_ends ms old answer new h.ends;
  }

  pub fewer_run : (t : List ℕ) (old new : Files) (answer : Result Report RunFault)
      → ((ms : List Message) → MessagesOf t ms → AllSpared more (IsSoundAt old) ms) → IsRun more t old answer new → IsRun fewer t old answer new
  fewer_run t old new answer sound h = record { keeps = λ ms of _. fewer_kept ms old new answer (h.keeps ms of (sound ms of)); is_read = h.is_read }
