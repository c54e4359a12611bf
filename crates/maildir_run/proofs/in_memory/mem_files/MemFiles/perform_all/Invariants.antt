use Rattle.std.proofs.Common.{◌≡◌, take}
use Rattle.maildir_run.proofs.Common.{files_in, all_performed}
use Rattle.maildir_run.proofs.in_memory.mem_files.MemFiles.perform_all.Given as goal

abbrev pub invariant-loop-act : goal.invariant-loop-act
invariant-loop-act l = files_in l.self ≡ all_performed (take l.act-index l.acts) (files_in l.fn.self)
