use Rattle.std.proofs.Common.{◌≤◌, length, take}
use Rattle.maildir_disk.proofs.Calls.Writes.{WritesSoFar}
use Rattle.maildir_disk.proofs.writing.write_synced.Given as goal

-- the file holds a prefix of the bytes, as if written when it was made; if the system is quiet, nothing else has changed
abbrev pub invariant-loop : goal.invariant-loop
invariant-loop g l = record {
  within : l.at ≤ length l.bytes;
  so_far :
      WritesSoFar l.name (take l.at l.bytes) (g.S.System.name_of l.file) (g.S.System.is_current l.system l.file)
      (g.S.System.at l.fn.system) (g.S.System.at l.system);
}
