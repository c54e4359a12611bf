use Rattle.std.proofs.Common.{◌≡◌, take}
use Rattle.maildir_run.proofs.Common.{files_in, acts_at, all_performed}
use Rattle.maildir_run.proofs.in_memory.mem_files.MemFiles.act_before.Given as goal

abbrev pub invariant-loop-line : goal.invariant-loop-line
invariant-loop-line l = files_in l.self ≡ all_performed (acts_at l.call (take l.line-index l.lines)) (files_in l.fn.self)
