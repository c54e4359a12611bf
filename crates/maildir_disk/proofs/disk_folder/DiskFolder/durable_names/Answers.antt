use Rattle.maildir_disk.proofs.Calls.Durable.{cur_kept, new_kept, not_kept, tmp_kept}
use Rattle.maildir_disk.proofs.Calls.Looking.{looks_none, looks_then}
use Rattle.maildir_disk.proofs.Calls.Syncing.{lifted_reads}
use Rattle.maildir_disk.proofs.disk_folder.DiskFolder.durable_names.Goals.{in-Tmp, in-New+in_ok-sync_folder-in-New, in-Cur+in_ok-sync_folder-in-Cur}
use Rattle.maildir_disk.proofs.disk_folder.DiskFolder.durable_names.Goals as goal

pub returns-in_err-may_call-clause-reads : goal.returns-in_err-may_call-clause-reads
returns-in_err-may_call-clause-reads g c = not_kept c.args.sub _ c.from_residual.ensures.0 looks_none

pub returns-in_err-names-clause-reads : goal.returns-in_err-names-clause-reads
returns-in_err-names-clause-reads g c =
    not_kept c.args.sub _ c.from_residual-in_err-names.ensures.0
    (lifted_reads g.S.System c.args.self.now c.in_ok-may_call.ensures.none_failed c.names_of_one_moment.ensures).looks

pub returns-in_err-sync_folder-in-New-clause-reads : goal.returns-in_err-sync_folder-in-New-clause-reads
returns-in_err-sync_folder-in-New-clause-reads g c =
    let reads = lifted_reads g.S.System c.args.self.now c.in_ok-may_call.ensures.none_failed c.in_ok-names.ensures in
    not_kept c.args.sub _ c.from_residual-in_err-sync_folder-in-New.ensures.0 (looks_then reads.looks c.sync_folder.ensures.looks)

pub returns-in_err-sync_folder-in-Cur-clause-reads : goal.returns-in_err-sync_folder-in-Cur-clause-reads
returns-in_err-sync_folder-in-Cur-clause-reads g c =
    let reads = lifted_reads g.S.System c.args.self.now c.in_ok-may_call.ensures.none_failed c.in_ok-names.ensures in
    not_kept c.args.sub _ c.from_residual-in_err-sync_folder-in-Cur.ensures.0 (looks_then reads.looks c.sync_folder-in-Cur.ensures.looks)

pub returns-clause-reads : goal.returns-clause-reads
returns-clause-reads g c =
    let reads = lifted_reads g.S.System c.args.self.now c.in_ok-may_call.ensures.none_failed c.in_ok-names.ensures in
    elim c.match-sub.branch [
      | in-Tmp w ↦ rw (w.in-Tmp.is, w.self-is) (tmp_kept (rw w.in-Tmp.is at reads))
      | in-New+in_ok-sync_folder-in-New w ↦
          let done = w.in_ok-sync_folder-in-New.ensures in
          rw (w.in-New.is, w.self-is) (new_kept (rw w.in-New.is at reads) done.looks done.names)
      | in-Cur+in_ok-sync_folder-in-Cur w ↦
          let done = w.in_ok-sync_folder-in-Cur.ensures in
          rw (w.in-Cur.is, w.self-is) (cur_kept (rw w.in-Cur.is at reads) done.looks done.names)
    ]
