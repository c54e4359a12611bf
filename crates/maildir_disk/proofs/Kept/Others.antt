-- A run, and then a sync: what they leave of the messages of other texts.
use Rattle.std.proofs.Common.{◌≡◌, ℕ, ◌<◌, ◌^◌, List, length, get_or, Result, sym, subst, rules}
use Rattle.maildir_disk.proofs.Common.{RunFault, Report, Follows, Message, AreNamed, IsHome, IsSoundAt, Files, Action, all_acted, IsRun, MessagesOf}
use Rattle.maildir_disk.proofs.Common.{AreAlike, LeftByOthers, World, Acts, Spared, AllSpared, spared_named}
use Rattle.maildir_disk.specs.Others.{Stays}
use Rattle.maildir_disk.proofs.Kept.Sound.{kept_by_run, still_sound}
use Rattle.maildir_disk.proofs.Left.LeftHomes.{all_beside, left_bodies, left_intact}
use Rattle.maildir_disk.proofs.Left.LeftTasks.{RunLeaves, texts_hold}
use Rattle.maildir_disk.proofs.Kept.Safety.{survive_after_run}
use Rattle.maildir_disk.proofs.Kept.Syncs.{still_home}

-- ---- what other programs do
pub stays_acted : {spared : Spared} (others : List Message) → AreNamed others → (actions : List Action) (old new : Files) (before now : Files → Type 0)
    → new ≡ all_acted spared actions old → Follows (LeftByOthers spared) before now → Stays spared others old before new now
stays_acted {spared} others named actions old new before now are left = record {
  sound = λ sound k d below sp.
      let m = get_or others k d in
      subst (λ s. IsSoundAt s m) (sym are) (still_sound spared m (spared_named spared _ sp (named k d below)) actions old (sound k d below sp));
  intact = left_intact spared others (λ s t leaves. all_beside others named leaves) left;
  home = λ home k d below sp.
      let m = get_or others k d in
      subst (λ s. IsHome s m) (sym are) (still_home spared m (spared_named spared _ sp (named k d below)) actions old (home k d below sp));
  survive = left_bodies spared others (λ s t leaves. all_beside others named leaves) left;
}

stays_beside : {spared : Spared} {others : List Message} → AreNamed others → {old new : World} {before now : Files → Type 0}
    → Acts spared old new → Follows (LeftByOthers spared) before now → Stays spared others old.files before new.files now
stays_beside {others} named {old} {new} {before} {now} acts left = search (rules, stays_acted)

-- two steps in sequence
pub stays_then : {spared : Spared} (others : List Message) (r : Files) (a : Files → Type 0) (s : Files) (b : Files → Type 0) (t : Files) (c : Files → Type 0)
    → Stays spared others r a s b → Stays spared others s b t c → Stays spared others r a t c
stays_then {spared} others r a s b t c first then = record {
  sound = λ h. then.sound (first.sound h);
  intact = λ h. then.intact (first.intact h);
  home = λ h. then.home (first.home h);
  survive = λ h. then.survive (first.survive h);
}

module _ (spared : Spared) (t : List ℕ) (ms : List Message) (are : MessagesOf t ms) (small : length t < 2 ^ 63)
    (others : List Message) (named : AreNamed others) (alike : AreAlike others ms) where
  pub stays_after_run : (old new : Files) (before now : Files → Type 0) (answer : Result Report RunFault) → IsRun spared t old answer new
      → AllSpared spared (IsSoundAt old) ms
      → RunLeaves spared ms before answer now → Stays spared others old before new now
  stays_after_run old new before now answer run sound left =
      let keeps = run.keeps ms are sound in
      record {
        sound = λ sound k d below sp.
            (kept_by_run keeps (get_or others k d) (spared_named spared _ sp (named k d below)) (alike k d below)).0 (sound k d below sp);
        intact = left_intact spared others (λ s u (names, ran). texts_hold spared t ms are small names s answer u ran others named alike) left;
        home = λ home k d below sp.
            (kept_by_run keeps (get_or others k d) (spared_named spared _ sp (named k d below)) (alike k d below)).1 (home k d below sp);
        survive = survive_after_run spared t ms are small others before now answer named alike left;
      }

  pub stays_after_both : (old : Files) (mid new : World) (before between now : Files → Type 0) (answer : Result Report RunFault)
      → IsRun spared t old answer mid.files
      → AllSpared spared (IsSoundAt old) ms → RunLeaves spared ms before answer between
      → Acts spared mid new → Follows (LeftByOthers spared) between now → Stays spared others old before new.files now
  stays_after_both old mid new before between now answer run sound left acts others_left =
      stays_then others old before _ between _ now
      (stays_after_run old mid.files before between answer run sound left) (stays_beside named acts others_left)
