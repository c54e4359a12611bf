-- A run's tasks where the folder is quiet, and in the files and what a power cut leaves of them together.
use Rattle.std.specs.Prelude.{◌≡◌, List, IsPermutation}
use Rattle.std.specs.FinMap.{keys}
use Rattle.maildir_run.specs.Calls.{Move, IsReady, IsOwn, effect, after, folder_of}
use Rattle.maildir_run.specs.Cuts.{Leaves, LeavesUnlisted}
use Rattle.maildir_run.specs.Files.{Files, Spared, all_bases}
use Rattle.maildir_run.specs.Tasks.{Ask, Do, Task, Way, call_of, Done, TaskRefused, LeavesDone}

-- a task was done in a quiet folder: it answered Ok
abbrev pub DoneQuietly : Task → Files → Files → Type 0
DoneQuietly (Ask sub names) old new = (new ≡ old) × IsPermutation names (keys (folder_of sub old))
DoneQuietly (Do call) old new = IsReady call old × (new ≡ effect call old)

-- a task was refused in a quiet folder
abbrev pub RefusedQuietly : Task → Files → Files → Type 0
RefusedQuietly task old new = (moves : List Move) × IsOwn moves × (new ≡ after all_bases old (call_of task) moves)

-- how tasks succeed or fail with nobody else at work
abbrev pub quietly : Way Files
quietly = record { done = DoneQuietly; refused = RefusedQuietly }

-- after a listing a power cut leaves no file of what it has not shown
abbrev pub UnlistedOf : Spared → Task → Files → Files → Files → Type 0
UnlistedOf spared (Ask sub names) old before now = LeavesUnlisted spared sub names old before now
UnlistedOf spared (Do call) old before now = Unit {0}

-- how tasks succeed or fail in the files and in what a power cut leaves of them
abbrev pub jointly : Spared → Way (Files × Files)
jointly spared = record {
  done = λ task old new. Done spared task old.0 new.0 × LeavesDone spared task old.1 new.1 × UnlistedOf spared task old.0 old.1 new.1;
  refused = λ task old new. TaskRefused spared task old.0 new.0 × Leaves spared (call_of task) old.1 new.1;
}

-- how they succeed or fail in what a power cut leaves, whatever a placement finds there
abbrev pub lasting : Spared → Way Files
lasting spared = record { done = LeavesDone spared; refused = λ task. Leaves spared (call_of task) }
