use Rattle.maildir_disk.proofs.Calls.Looking.{looks_none, looks_then}
use Rattle.maildir_disk.proofs.Calls.Refused.{sync_failed}
use Rattle.maildir_disk.proofs.Left.Lefts.{on_ok}
use Rattle.maildir_disk.proofs.Kept.Syncs.{kept_later}
use Rattle.maildir_disk.proofs.disk_folder.DiskFolder.sync_all.Goals as goal

pub returns-in_err-may_call-clause-syncs : goal.returns-in_err-may_call-clause-syncs
returns-in_err-may_call-clause-syncs g c = sync_failed _ c.from_residual.ensures.0 looks_none

pub returns-in_err-sync_folder-clause-syncs : goal.returns-in_err-sync_folder-clause-syncs
returns-in_err-sync_folder-clause-syncs g c = sync_failed _ c.from_residual-in_err-sync_folder.ensures.0 c.sync_folder.ensures.looks

pub returns-in_err-sync_folder-2-clause-syncs : goal.returns-in_err-sync_folder-2-clause-syncs
returns-in_err-sync_folder-2-clause-syncs g c =
    sync_failed _ c.from_residual-in_err-sync_folder-2.ensures.0 (looks_then c.in_ok-sync_folder.ensures.looks c.sync_folder-2.ensures.looks)

pub returns-clause-syncs : goal.returns-clause-syncs
returns-clause-syncs g c =
    let first = c.in_ok-sync_folder.ensures in
    let second = c.in_ok-sync_folder-2.ensures in
    let root = c.sync_root.ensures in
    let both = looks_then first.looks second.looks in
    let looks = looks_then both root.looks in
    record {
      honest = looks.honest;
      acts = looks.acts;
      left = looks.left;
      rooted = λ spared h. root.rooted spared (both.honest spared h);
      still_rooted = looks.still_rooted;
      touches = looks.touches;
      synced = λ spared h.
          let on = first.looks.honest spared h in
          let last = both.honest spared h in
          on_ok _ c.sync_root.result (λ left may.
          let three = root.looks.left spared last left may in
          let two = second.names spared on three.0 three.1 in
          let one = first.names spared h two.0 two.1 in (
            one.0,
            one.1,
            record {
              mid = record { files = _; left = two.0 };
              first = one.2;
              then = kept_later two.2 (root.looks.acts spared last) three.2;
            },
          ));
      quiet = looks.quiet;
      quietly = looks.quietly;
    }
