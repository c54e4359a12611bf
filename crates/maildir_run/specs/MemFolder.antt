-- What a folder in memory shows.
use Rattle.std.specs.Prelude.{◌≡◌, ◌⊎◌, ℕ, ◌+◌, List, [], Option, IsFalse, Result, IsErrOf}
use Rattle.maildir_run.specs.declared.folder.FolderFault.{FolderFault}
use Rattle.maildir_run.specs.declared.folder.FolderFault.TheVariants.{OutOfMemory}
use Rattle.maildir_run.specs.declared.in_memory.mem_folder.MemFolder.{MemFolder}
use Rattle.maildir_run.specs.declared.in_memory.script.Act.{Act}
use Rattle.maildir_run.specs.declared.in_memory.script.Mode.{Mode}
use Rattle.maildir_run.specs.declared.in_memory.script.Mode.TheVariants.{Plain}
use Rattle.maildir_run.specs.declared.in_memory.script.ScriptLine.{ScriptLine}
use Rattle.maildir_run.specs.Calls.{Call}
use Rattle.maildir_run.specs.Counting.{capped}
use Rattle.maildir_run.specs.Files.{Files}
use Rattle.maildir_run.specs.MemFiles.{files_in}
use Rattle.maildir_run.specs.Seen.{Seen}
use Rattle.maildir_run.specs.Script.{is_from, mode_of, acts_at, all_performed, Answers, IsCutShort}

-- its files
abbrev pub files_of : MemFolder → Files
files_of m = files_in m.files

-- how many calls it counted, at most 2 ^ 64 - 1
abbrev pub call_count : MemFolder → ℕ
call_count m = m.calls

-- how many calls it counted in all, in 128 bits
abbrev pub all_call_count : MemFolder → ℕ
all_call_count m = m.all_calls

-- how many of them failed, in 128 bits
abbrev pub failure_count : MemFolder → ℕ
failure_count m = m.failures

-- the lines of its script
abbrev pub lines_of : MemFolder → List ScriptLine
lines_of m = m.lines.items

-- the call from which on every call fails, if there is one
abbrev pub fail_from_of : MemFolder → Option ℕ
fail_from_of m = m.fail_from

-- the number of the next call; the count stops at its greatest number
abbrev pub next_call : MemFolder → ℕ
next_call m = capped (call_count m + 1)

-- the mode of the next call
abbrev pub next_mode : MemFolder → Mode
next_mode m = mode_of (lines_of m) (fail_from_of m) (next_call m)

-- the acts before the next call
abbrev pub next_acts : MemFolder → List Act
next_acts m = acts_at (next_call m) (lines_of m)

-- the files when these acts are made
abbrev pub next_files : MemFolder → Files
next_files m = all_performed (next_acts m) (files_of m)

-- its script has no line: no other program acts, and no call comes twice or in part
abbrev pub IsQuiet : MemFolder → Type 0
IsQuiet m = lines_of m ≡ []

-- Nothing is scripted for the next call: there is no line, and it comes before the calls that are to fail.
pub record HasNoScript (m : MemFolder) : Type 0 where
  pub quiet : IsQuiet m
  pub early : IsFalse (is_from (fail_from_of m) (next_call m))

-- The counts are as they were.
pub record SameCounts (old new : MemFolder) : Type 0 where
  pub calls : call_count new ≡ call_count old
  pub all_calls : all_call_count new ≡ all_call_count old
  pub failures : failure_count new ≡ failure_count old

-- The script is as it was.
pub record SameScript (old new : MemFolder) : Type 0 where
  pub lines : lines_of new ≡ lines_of old
  pub fail_from : fail_from_of new ≡ fail_from_of old

-- The folder is as it was: its files, its counts and its script.
pub record IsUnchanged (old new : MemFolder) : Type 0 where
  pub files : files_of new ≡ files_of old
  pub counts : SameCounts old new
  pub script : SameScript old new

-- one more call is counted, and the count stops at its greatest number
abbrev pub CountsCall : MemFolder → MemFolder → Type 0
CountsCall old new = call_count new ≡ next_call old

-- the call did what the script says: all acts before it were made, and then it answered in its mode; or an act found no memory
abbrev pub FollowsScript : {A : Type 0} → Call → MemFolder → Result A FolderFault → MemFolder → Type 0
FollowsScript call old result new =
    Answers (next_mode old) call (next_files old) result (files_of new)
    ⊎ (IsErrOf result OutOfMemory × IsCutShort (next_acts old) (files_of old) (files_of new))

-- A call did what the script says, which stays as it is, and was counted.
pub record Scripted {A : Type 0} (call : Call) (old : MemFolder) (result : Result A FolderFault) (new : MemFolder) : Type 0 where
  pub did : FollowsScript call old result new
  pub plain : HasNoScript old → Answers Plain call (files_of old) result (files_of new)
  pub script : SameScript old new
  pub told : CountsCall old new

-- what is seen of it as of any folder: it takes effect as reported, a power cut takes nothing from it, and all files count as touched
abbrev pub seen_of : MemFolder → Seen
seen_of m = record {
  honest = λ _. Unit {0};
  quiet = IsQuiet m;
  files = files_of m;
  may_leave = λ left. left ≡ files_of m;
  rooted = Unit {0};
  touched = λ name. Unit {0};
  calls = all_call_count m;
  failures = failure_count m;
}
