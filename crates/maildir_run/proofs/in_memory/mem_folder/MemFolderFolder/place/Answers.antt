use Rattle.std.proofs.Common.{arith}
use Rattle.maildir_run.proofs.Memory.Followed.{cut_made, cut_scripted, made, scripted}
use Rattle.maildir_run.proofs.in_memory.mem_folder.MemFolderFolder.place.Goals as goal

pub returns-in_err-mode : goal.returns-in_err-mode
returns-in_err-mode c =
    let is = c.from_residual.ensures.1 in
    record {
      places = cut_made is c.in_err-mode.ensures;
      scripted = cut_scripted is c.in_err-mode.ensures;
    }

pub returns : goal.returns
returns c =
    let count = c.count_failure.ensures in
    record {
      places = made c.in_ok-mode.ensures c.place_in-answer.ensures count.answer count.rest count.cause;
      scripted = grind (arith, scripted);
    }
