-- A run, and then a sync: what a power cut leaves of the run's messages.
use Rattle.std.proofs.Common.{ℕ, ◌<◌, ◌^◌, List, length, Ok, Result, OnOk, IsOk, get_or, subst, sym}
use Rattle.maildir_disk.proofs.Common.{RunFault, Report, Follows, Message, AreNamed, IsHome, IsSoundAt, Files, ReportsMessages, IsRun, MessagesOf, text_named}
use Rattle.maildir_disk.proofs.Common.{AreAlike, AreIntact, AreSafe, LeftByOthers, Survive, Syncs, World, Acts, Spared, AllSpared, spared_named}
use Rattle.maildir_disk.proofs.Left.Lefts.{if_ok}
use Rattle.maildir_disk.proofs.Left.LeftHomes.{all_beside, left_bodies, left_intact}
use Rattle.maildir_disk.proofs.Left.LeftTasks.{own_hold, RunLeaves, texts_hold}
use Rattle.maildir_disk.proofs.Kept.Syncs.{still_home, synced_bodies}

module _ (spared : Spared) (t : List ℕ) (ms : List Message) (are : MessagesOf t ms) (small : length t < 2 ^ 63) where
  pub intact_after_run : (before now : Files → Type 0) (answer : Result Report RunFault)
      → RunLeaves spared ms before answer now → AreIntact spared ms before → AreIntact spared ms now
  intact_after_run before now answer run = left_intact spared ms (λ s u (names, ran). own_hold spared t ms are small names s answer u ran) run

  pub survive_after_run : (others : List Message) (before now : Files → Type 0) (answer : Result Report RunFault) → AreNamed others
      → AreAlike others ms → RunLeaves spared ms before answer now
      → Survive spared others before → Survive spared others now
  survive_after_run others before now answer named alike run =
      left_bodies spared others (λ s u (names, ran). texts_hold spared t ms are small names s answer u ran others named alike) run

  home_after_run : {old new : Files} {report : Report} → IsRun spared t old (Ok report) new → AllSpared spared (IsSoundAt old) ms
      → AllSpared spared (IsHome new) ms
  home_after_run run sound = (run.keeps ms are sound).ends.delivered.homes_are

  pub reports_after_run : (old new : Files) (report : Report) → IsRun spared t old (Ok report) new → AllSpared spared (IsSoundAt old) ms
      → ReportsMessages spared ms old report
  reports_after_run old new report run sound = (run.keeps ms are sound).ends.reports

  home_after_others : {old new : World} → Acts spared old new → AllSpared spared (IsHome old.files) ms → AllSpared spared (IsHome new.files) ms
  home_after_others {old} acts home k d below sp =
      let m = get_or ms k d in
      subst (λ s. IsHome s m) (sym acts.files_are)
      (still_home spared m (spared_named spared _ sp (text_named t ms are small k d below)) acts.actions old.files (home k d below sp))

  -- a run and a sync
  pub intact_after_both : (before between now : Files → Type 0) (answer : Result Report RunFault)
      → RunLeaves spared ms before answer between
      → Follows (LeftByOthers spared) between now → AreIntact spared ms before → AreIntact spared ms now
  intact_after_both before between now answer run others intact =
      left_intact spared ms (λ s u leaves. all_beside ms (text_named t ms are small) leaves) others (intact_after_run before between answer run intact)

  pub survive_after_both : (others : List Message) (before between now : Files → Type 0) (answer : Result Report RunFault) → AreNamed others
      → AreAlike others ms → RunLeaves spared ms before answer between
      → Follows (LeftByOthers spared) between now → Survive spared others before → Survive spared others now
  survive_after_both others before between now answer named alike run acts survive =
      left_bodies spared others (λ s u leaves. all_beside others named leaves) acts (survive_after_run others before between answer named alike run survive)

  survive_synced : (old new : Files) {before now : Files → Type 0} → Follows (λ was left. Syncs spared old was new left) before now
      → AllSpared spared (IsHome old) ms → AreIntact spared ms before → Survive spared ms now
  survive_synced old new syncs home intact left may =
      let was = syncs left may in
      synced_bodies ms (text_named t ms are small) home (intact was.0 was.1) was.2

  pub safe_after_both : {A E : Type 0} (old : Files) (mid new : World) (before between now : Files → Type 0)
      (rooted : Type 0) (report : Report) (synced : Result A E) → IsRun spared t old (Ok report) mid.files → AllSpared spared (IsSoundAt old) ms
      → RunLeaves spared {E = RunFault} ms before (Ok report) between
      → AreIntact spared ms before → Acts spared mid new → IsOk synced
      → OnOk synced (Follows (λ before left. Syncs spared mid.files before new.files left) between now)
      → OnOk synced rooted → AreSafe spared ms new.files now rooted
  safe_after_both old mid new before between now rooted report synced run sound left intact acts ok syncs found =
      let home = home_after_run run sound in
      record {
        home = home_after_others acts home;
        survive = survive_synced mid.files new.files (if_ok synced ok syncs) home (intact_after_run before between (Ok report) left intact);
        is_rooted = if_ok synced ok found;
      }
