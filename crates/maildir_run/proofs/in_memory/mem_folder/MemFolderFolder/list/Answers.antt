use Rattle.std.proofs.Common.{rules}
use Rattle.maildir_run.proofs.Common.{Listing}
use Rattle.maildir_run.proofs.Memory.Followed.{cut_made, cut_scripted, listing_made, made, scripted}
use Rattle.maildir_run.proofs.in_memory.mem_folder.MemFolderFolder.list.Goals as goal

pub returns-in_err-mode : goal.returns-in_err-mode
returns-in_err-mode c =
    let is = c.from_residual.ensures.1 in
    let did = cut_scripted {call = Listing c.args.sub} is c.in_err-mode.ensures in
    record {
      lists = listing_made c.args.sub _ _ _ did (search rules) (cut_made is c.in_err-mode.ensures);
      scripted = did;
      in_order = search rules;
    }

pub returns : goal.returns
returns c =
    let count = c.count_failure.ensures in
    let answers = c.list_in-answer.ensures.answers in
    let did = scripted {call = Listing c.args.sub} c.in_ok-mode.ensures answers count.answer count.rest in
    record {
      lists = listing_made c.args.sub _ _ _ did (search rules) (made c.in_ok-mode.ensures answers count.answer count.rest count.cause);
      scripted = did;
      in_order = search rules;
    }
