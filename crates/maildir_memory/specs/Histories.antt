-- A history of commands that the machine of plain data can have, and for which all that is assumed of any commands holds.
use Rattle.std.specs.Prelude.{◌≡◌, ℕ, Bool, true, false, not, List, [], ◌∷◌, Some, codes}
use Rattle.maildir_run.specs.Delivery.{Message, IsHome, IsMissing}
use Rattle.maildir_run.specs.Files.{Files, Spared, is_name}
use Rattle.maildir_run.specs.Runs.{Chain}
use Rattle.maildir_run.specs.Several.{Text}
use Rattle.maildir_commands.specs.Episodes.{Episode, IsHistory, LeadsTo}
use Rattle.maildir_commands.specs.Episodes.Episode.{Conversion, Cut, Others}
use Rattle.maildir_commands.specs.Machines.{AreFit, HasItsMessages}
use Rattle.maildir_commands.specs.Promise.{IsNewTo, all_whole}
use Rattle.maildir_commands.specs.Seen.{SeenMachine}
use Rattle.maildir_commands.specs.Words.{convert_words}
use Rattle.maildir_memory.specs.Plain.{machine_with}
use Rattle.maildir_memory.specs.declared.plain_machine.PlainMachine.{PlainMachine}

-- all bases but that of this message; a power cut keeps or loses each rename as one change, if `whole` is true
abbrev pub all_but : Message → Bool → Spared
all_but gone whole = record { bases = λ b. not (is_name gone.target.base b); whole = whole }

-- what is seen of a machine, and the files of its Maildir
abbrev pub seen_machine : PlainMachine → SeenMachine
seen_machine machine = machine_with machine.text.now machine.maildir

abbrev pub files_at : PlainMachine → Files
files_at machine = ((seen_machine machine).maildir_at (codes "M")).files

-- the message is at home if the second value is true, otherwise missing
abbrev pub IsThen : Message → Bool → Files → Type 0
IsThen gone true s = IsHome s gone
IsThen gone false s = IsMissing s gone

-- a step of the history
pub data Step : Type 0 where
  -- a command is to deliver the text into the Maildir of this word, ends with this status, and prints this
  Delivering : (into : List ℕ) → (status : ℕ) → (line : List ℕ) → Step
  -- another episode, after which the message is at home or missing
  Happening : (episode : Episode) → (there : Bool) → Step

-- A step leads from one moment to another. Other programs spare all messages but this one, which is at home after each command.
abbrev pub Leads : Text → Message → Bool → Step → PlainMachine → PlainMachine → Type 0
Leads text gone whole (Delivering into status line) old new =
    (ran : LeadsTo (all_but gone whole) seen_machine (codes "M") (text ∷ []) (Conversion (text ∷ []) status (Some []) (Some line)) old new)
    × (ran.words ≡ convert_words into (codes "mail" ∷ [])) × IsHome (files_at new) gone
Leads text gone whole (Happening episode there) old new =
    LeadsTo (all_but gone whole) seen_machine (codes "M") (text ∷ []) episode old new × IsThen gone there (files_at new)

-- All that is assumed of any commands holds of this history. One command is interrupted, and a power cut takes away what it delivered, and the Maildir.
-- The next ends with 1 while it prints. Somebody deletes a message. The last command has another word for the Maildir, ends with 0, and delivers the message
-- again. Then a power cut takes nothing away.
pub record CanHappen (text : Text) (gone : Message) (whole : Bool) (start : PlainMachine) : Type 0 where
  pub honest : (seen_machine start).honest (all_but gone whole)
  pub fit : AreFit (text ∷ [])
  pub is_new : IsNewTo (all_but gone whole) (text ∷ []) ((seen_machine start).maildir_at (codes "M"))
  pub line : List ℕ
  pub end : PlainMachine
  pub happens : Chain (Leads text gone whole)
      (Delivering (codes "M") 1 [] ∷ Happening Cut false ∷ Delivering (codes "M") 1 (codes "m") ∷ Happening Others false
      ∷ Delivering (codes "M/") 0 line ∷ Happening Cut true ∷ []) start end

-- All that is assumed of commands over one text holds of this history, in which nothing is deleted: a command is interrupted, and a power cut takes away
-- what it delivered. The next ends with 1 while it prints, and a power cut takes nothing away. The last ends with 0, and then comes a power cut again.
pub record CanHappenToOne (text : Text) (start : PlainMachine) : Type 0 where
  pub honest : (seen_machine start).honest all_whole
  pub is : HasItsMessages text
  pub is_new : IsNewTo all_whole (text ∷ []) ((seen_machine start).maildir_at (codes "M"))
  pub line : List ℕ
  pub end : PlainMachine
  pub happens : IsHistory all_whole seen_machine (codes "M") (text ∷ [])
      (Conversion (text ∷ []) 1 (Some []) (Some []) ∷ Cut ∷ Conversion (text ∷ []) 1 (Some []) (Some (codes "m")) ∷ Cut
      ∷ Conversion (text ∷ []) 0 (Some []) (Some line) ∷ Cut ∷ []) start end
