-- What is kept in a Maildir through a run, and through the sync after it.
use Rattle.std.proofs.Common.{Result, sym, subst, ◌^◌}
use Rattle.maildir_commands.proofs.Common.{Bytes, Files, KeepsForeign, KeepsSource, Report, RunFault, seen_folder}
use Rattle.maildir_run.specs.Converting.{Converts}
use Rattle.maildir_run.proofs.Call.Touching.{touched_none, touched_then}
use Rattle.maildir_disk.specs.declared.disk_folder.DiskFolder.{DiskFolder}
use Rattle.maildir_disk.specs.declared.system.System.{Ghosts}
use Rattle.maildir_disk.specs.Seen.{SyncsMaildir, seen_of, system_of}
use Rattle.maildir_run.specs.Files.{Spared}
use Rattle.maildir_commands.proofs.SameMessages.{keeps_same, of_each}
use Rattle.maildir_disk.proofs.Kept.Others.{stays_after_run, stays_after_both}
use Rattle.maildir_disk.proofs.Kept.Safety.{intact_after_run, intact_after_both, survive_after_run, survive_after_both}

-- ---- a Maildir whose system does as assumed is a folder that takes effect as reported
module _ {S File : Type 0} (f : Ghosts S File) (folder : DiskFolder S) where
  pub as_folder : (spared : Spared) → (seen_folder f folder).honest spared → (seen_of f folder).honest spared
  as_folder spared h none = h

  pub as_quiet_folder : (seen_folder f folder).quiet → (seen_of f folder).quiet
  as_quiet_folder q none = q

module _ {S File : Type 0} (f : Ghosts S File) (old mid : DiskFolder S) {before after : Bytes} {answer : Result Report RunFault}
    (run : Converts before after (2 ^ 40) (seen_of f old) (seen_of f mid) answer) where
  abbrev was : Files → Type 0
  was = (f.at old.system).may_leave

  abbrev is : Files → Type 0
  is = (f.at mid.system).may_leave

  able : (spared : Spared) → (seen_folder f old).honest spared → (seen_of f old).honest spared
  able = as_folder f old

  still : (spared : Spared) → (seen_folder f old).honest spared → (seen_of f mid).honest spared
  still spared h = run.honest spared (able spared h)

  pub kept_by_run : KeepsSource before after (seen_folder f old) (seen_folder f mid)
  kept_by_run = record {
    budget = run.budget;
    still_rooted = λ spared h. run.still_rooted spared (able spared h);
    texts = λ spared h. of_each (λ one other same. keeps_same same) (λ text fits p.
        let left = run.left spared (able spared h) text.bytes text.messages p fits.are in
        record {
          intact = intact_after_run spared text.bytes text.messages fits.are fits.small was is answer left;
          still = λ others named alike. survive_after_run spared text.bytes text.messages fits.are fits.small others was is answer named alike left;
          stays = λ sound others named alike.
              stays_after_run spared text.bytes text.messages fits.are fits.small others named alike _ _ was is answer
              (run.owes spared (able spared h) text.bytes fits.small p) sound left;
        });
    touches = run.touches;
    foreign = λ q. run.others (as_quiet_folder f old q);
  }

  pub kept_by_both : (new : DiskFolder S) {A E : Type 0} {synced : Result A E} → SyncsMaildir (system_of f mid) synced (system_of f new)
      → KeepsSource before after (seen_folder f old) (seen_folder f new)
  kept_by_both new sync = record {
    budget = run.budget;
    still_rooted = λ spared h rooted. sync.still_rooted spared (still spared h) (run.still_rooted spared (able spared h) rooted);
    texts = λ spared h. of_each (λ one other same. keeps_same same) (λ text fits p.
        let left = run.left spared (able spared h) text.bytes text.messages p fits.are in
        let acts = sync.acts spared (still spared h) in
        let now = (f.at new.system).may_leave in
        let beside = sync.left spared (still spared h) in
        record {
          intact = intact_after_both spared text.bytes text.messages fits.are fits.small was is now answer left beside;
          still = λ others named alike. survive_after_both spared text.bytes text.messages fits.are fits.small others was is now answer named alike left beside;
          stays = λ sound others named alike.
              stays_after_both spared text.bytes text.messages fits.are fits.small others named alike _ _ _ was is now answer
              (run.owes spared (able spared h) text.bytes fits.small p) sound left acts beside;
        });
    touches = touched_then run.touches (touched_none sync.touches);
    foreign = λ q. subst (KeepsForeign _) (sym (sync.quietly (run.quiet (as_quiet_folder f old q)))) (run.others (as_quiet_folder f old q));
  }
