-- The calls of a file system in memory, as they were recorded.
use Rattle.std.specs.Prelude.{ℕ, List, [], IsTrue, Result, Ok, Err, map, reverse, string_bytes}
use Rattle.std.specs.declared.io.Error.{Error}
use Rattle.maildir_calls.specs.Made.{Made, Trace}
use Rattle.maildir_calls.specs.Made as made
use Rattle.maildir_memory.specs.declared.mem_call.Handle.{Handle}
use Rattle.maildir_memory.specs.declared.mem_call.MemCall.{MemCall}
use Rattle.maildir_memory.specs.declared.mem_call.MemCall.TheVariants.{ClockRead, Emptied, FileMade, FileOpened, FileRemoved, FolderMade}
use Rattle.maildir_memory.specs.declared.mem_call.MemCall.TheVariants.{FolderRemoved, InstantRead, Listed, LockTried, Looked, LookedAt}
use Rattle.maildir_memory.specs.declared.mem_call.MemCall.TheVariants.{LookedThrough, Moved, Opened, Synced, Waited, Written}
use Rattle.maildir_memory.specs.declared.mem_calls.MemCalls.{MemCalls}

-- a folder that was listed has no names
abbrev pub no_names : Result (Unit {0}) Error → Result (List (List ℕ)) Error
no_names (Ok done) = Ok []
no_names (Err error) = Err error

-- a call of the record
abbrev pub made_of : MemCall → Made Handle
made_of (FolderMade path mode answer) = made.FolderMade (string_bytes path) mode answer
made_of (FolderRemoved path answer) = made.FolderRemoved (string_bytes path) answer
made_of (Opened path answer) = made.Opened (string_bytes path) answer
made_of (Listed path answer) = made.Listed (string_bytes path) (no_names answer)
made_of (Looked path answer) = made.Looked (string_bytes path) answer
made_of (LookedAt path answer) = made.LookedAt (string_bytes path) answer
made_of (LookedThrough file answer) = made.LookedThrough file answer
made_of (FileMade path mode answer) = made.FileMade (string_bytes path) mode answer
made_of (FileOpened path answer) = made.FileOpened (string_bytes path) answer
made_of (Emptied file answer) = made.Emptied file answer
made_of (Written file bytes answer) = made.Written file bytes.items answer
made_of (Synced file answer) = made.Synced file answer
made_of (LockTried file answer) = made.LockTried file answer
made_of (Moved from to answer) = made.Moved (string_bytes from) (string_bytes to) answer
made_of (FileRemoved path answer) = made.FileRemoved (string_bytes path) answer
made_of (ClockRead answer) = made.ClockRead answer
made_of (InstantRead answer) = made.InstantRead answer
made_of (Waited pause) = made.Waited pause

-- All of its calls are in the record, as long as there was memory for each.
abbrev pub recorded : MemCalls → Trace Handle
recorded calls = record { known = IsTrue calls.is_whole; calls = reverse (map made_of calls.made.items) }
