use Rattle.std.proofs.Common.{Err, IsOk, ap, sym, ◌∙◌, rules}
use Rattle.maildir_disk.proofs.Kept.Safety.{safe_after_both, reports_after_run}
use Rattle.maildir_disk.proofs.Left.Lefts.{if_ok}
use Rattle.maildir_commands.proofs.Causes.{failed_in_run, long_possible, of_run}
use Rattle.maildir_commands.proofs.Delivering.{not_stored, stored_printed}
use Rattle.maildir_commands.proofs.Known.{both_have, swept_acts}
use Rattle.maildir_commands.proofs.SameMessages.{of_each, stores_same}
use Rattle.maildir_commands.proofs.Storing.{as_folder, as_quiet_folder, kept_by_both, kept_by_run}
use Rattle.maildir_commands.proofs.sources.deliver.Goals as goal

-- the run ended with a fault
pub returns-in_err-report-clause-does : goal.returns-in_err-report-clause-does
returns-in_err-report-clause-does g c =
    let failed = c.in_err-report.ensures in
    not_stored _ c.from_residual.ensures.1 (kept_by_run g.S.System c.args.folder.now c.convert.new.folder c.convert.ensures) (record {
      cause =
          of_run (g.I.Read.remaining c.args.source.now) (g.I.Read.remaining c.convert.new.source) _
          (λ e t p entries. failed.no_from_line (ap Err e) t entries p) (λ e. long_possible (failed.spent (ap Err e)));
      failed_call = failed_in_run c.args.folder.now.calls c.convert.new.folder.calls
          c.args.folder.now.failures c.convert.new.folder.failures c.in_err-report.field-0.0 failed.cause failed.call_number;
    })

-- the sync ended with a fault
pub returns-in_err-map_err-clause-does : goal.returns-in_err-map_err-clause-does
returns-in_err-map_err-clause-does g c =
    not_stored _ c.from_residual-in_err-map_err.ensures.1
    (kept_by_both g.S.System c.args.folder.now c.convert.new.folder c.convert.ensures c.sync.new.self c.sync.ensures.syncs)
    (search rules)

-- it is done
pub returns-clause-does : goal.returns-clause-does
returns-clause-does g c =
    let run = c.convert.ensures in
    let done = c.in_ok-report.ensures in
    let sync = c.sync.ensures.syncs in
    let ok : IsOk c.sync.result = sym c.in_ok-map_err.ensures.variant in
    let able = as_folder g.S.System c.args.folder.now in
    let able_quietly = as_quiet_folder g.S.System c.args.folder.now in
    stored_printed (kept_by_both g.S.System c.args.folder.now c.convert.new.folder c.convert.ensures c.sync.new.self sync)
    (record {
      end = done.end;
      calls = rw c.sync.ensures.calls done.calls;
      honest = λ spared h.
          let still = run.honest spared (able spared h) in
          sync.honest spared still (if_ok c.sync.result ok c.sync.ensures.none_failed);
      texts = λ spared h. of_each (λ one other same. stores_same same) (λ text is p sound.
          let still = run.honest spared (able spared h) in
          let owes = done.owes spared (able spared h) text.bytes is.small p in
          let keeps = owes.keeps text.messages is.are sound in
          record {
            reports = reports_after_run spared text.bytes text.messages is.are is.small _ _ c.in_ok-report.report owes sound;
            known = both_have keeps (sync.acts spared still);
            swept = swept_acts (sync.acts spared still) keeps.ends.delivered.swept;
            safe = λ intact.
                safe_after_both spared text.bytes text.messages is.are is.small _ _ _ _ _ _ _ c.in_ok-report.report c.sync.result owes sound
                (done.left spared (able spared h) text.bytes text.messages p is.are)
                intact (sync.acts spared still) ok (sync.synced spared still) (sync.rooted spared still);
          });
      quiet = λ q.
          let still = run.quiet (able_quietly q) in sync.quiet still (if_ok c.sync.result ok c.sync.ensures.none_failed);
      alone = λ q t ms p are. sync.quietly (run.quiet (able_quietly q)) ∙ (done.alone (able_quietly q) t ms p are).0;
    }) _ c.print_report.ensures.printed c.print_report.ensures.causes
