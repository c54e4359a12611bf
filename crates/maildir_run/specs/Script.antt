-- What a script makes of a folder in memory: what other programs do before its calls, and which calls fail or come twice.
use Rattle.std.specs.Prelude.{◌≡◌, ℕ, ◌==◌, ◌/◌, ◌⊎◌, Bool, true, false, if◌then◌else◌, nat_le, IsTrue, IsFalse}
use Rattle.std.specs.Prelude.{List, [], ◌∷◌, ◌++◌, length, take, Option, Some, None, Result, Ok, Err, string_bytes}
use Rattle.maildir_name.specs.Names.{is_converter_name}
use Rattle.maildir_run.specs.declared.folder.FolderFault.{FolderFault}
use Rattle.maildir_run.specs.declared.folder.FolderFault.TheVariants as fault
use Rattle.maildir_run.specs.declared.in_memory.script.Act.{Act}
use Rattle.maildir_run.specs.declared.in_memory.script.Act.TheVariants as act
use Rattle.maildir_run.specs.declared.in_memory.script.Mode.{Mode}
use Rattle.maildir_run.specs.declared.in_memory.script.Mode.TheVariants.{Plain, FailBefore, FailAfter, Half, Twice}
use Rattle.maildir_run.specs.declared.in_memory.script.ScriptLine.{ScriptLine}
use Rattle.maildir_run.specs.Files.{Files, ToCur, Reflag, DropTmp, acted, all_bases}
use Rattle.maildir_run.specs.Cuts.{doubled}
use Rattle.maildir_run.specs.Calls.{Call, Writing, Placing, Removing, effect, torn, IsReady}
use Rattle.maildir_run.specs.MemFiles.{with_file, without_file}

-- the files after an act; one whose condition fails changes nothing (maildir(5), and this project's own rule)
abbrev pub performed : Act → Files → Files
performed (act.ToCur name target) s = acted all_bases (ToCur (string_bytes name) (string_bytes target)) s
performed (act.Reflag name target) s = acted all_bases (Reflag (string_bytes name) (string_bytes target)) s
performed (act.DropTmp name) s = acted all_bases (DropTmp (string_bytes name)) s
performed (act.PutOther sub name bytes) s = if is_converter_name (string_bytes name) then s else with_file sub (string_bytes name) bytes.items s
performed (act.DropOther sub name) s = if is_converter_name (string_bytes name) then s else without_file sub (string_bytes name) s

-- the files after half of an act: a file that is moved is under both names; half of any other act does nothing
abbrev pub half_performed : Act → Files → Files
half_performed (act.ToCur name target) s = doubled (ToCur (string_bytes name) (string_bytes target)) s
half_performed (act.Reflag name target) s = doubled (Reflag (string_bytes name) (string_bytes target)) s
half_performed other s = s

-- the files after some acts, one after the other
abbrev pub all_performed : List Act → Files → Files
all_performed [] s = s
all_performed (first ∷ acts) s = all_performed acts (performed first s)

-- the acts before a call: those of each line for it
abbrev pub acts_at : ℕ → List ScriptLine → List Act
acts_at call [] = []
acts_at call (line ∷ lines) = (if line.call == call then line.acts.items else []) ++ acts_at call lines

-- The acts were made up to one that found no memory.
pub record IsCutShort (acts : List Act) (old new : Files) : Type 0 where
  pub made : List Act
  pub refused : Act
  pub rest : List Act
  pub parts : acts ≡ made ++ refused ∷ rest
  pub left : new ≡ all_performed made old

-- whether this call is one of those that fail from some call on
abbrev pub is_from : Option ℕ → ℕ → Bool
is_from None call = false
is_from (Some first) call = nat_le first call

-- the mode of the first line for this call
abbrev pub mode_at : List ScriptLine → ℕ → Mode
mode_at [] call = Plain
mode_at (line ∷ lines) call = if line.call == call then line.mode else mode_at lines call

-- the mode of a call
abbrev pub mode_of : List ScriptLine → Option ℕ → ℕ → Mode
mode_of lines fail_from call = if is_from fail_from call then FailBefore else mode_at lines call

-- the files after a write left half of its bytes; other calls leave nothing
abbrev pub halved : Call → Files → Files
halved (Writing name bytes) s = torn (Writing name bytes) (take (length bytes / 2) bytes) s
halved other s = s

-- the files after a call in a mode (this project's own rule)
abbrev pub done : Mode → Call → Files → Files
done Plain call s = effect call s
done FailBefore call s = s
done FailAfter call s = effect call s
done Half call s = halved call s
done Twice call s = effect call (effect call s)

-- whether a call answers `Failed` in a mode
abbrev pub fails : Mode → Bool
fails Plain = false
fails Twice = false
fails other = true

-- a call takes memory: a placement does if its file is there, and a removal does not
abbrev pub TakesMemory : Call → Files → Type 0
TakesMemory (Removing _) s = ⊥
TakesMemory (Placing name place target) s = IsReady (Placing name place target) s
TakesMemory other s = Unit {0}

-- what a call leaves that found no memory: nothing, or what its first time left
abbrev pub IsPart : Mode → Call → Files → Files → Type 0
IsPart mode call old new = (new ≡ old) ⊎ ((mode ≡ Twice) × (new ≡ effect call old))

-- what a call in a mode answers and leaves
abbrev pub Answers : {A : Type 0} → Mode → Call → Files → Result A FolderFault → Files → Type 0
Answers mode call old (Ok _) new = IsFalse (fails mode) × IsReady call old × (new ≡ done mode call old)
Answers mode call old (Err fault.Absent) new = IsFalse (fails mode) × (¬ IsReady call old) × (new ≡ old)
Answers mode call old (Err fault.Failed) new = IsTrue (fails mode) × (new ≡ done mode call old)
Answers mode call old (Err fault.OutOfMemory) new = TakesMemory call old × IsPart mode call old new
