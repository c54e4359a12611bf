-- What any commands over one text leave of a Maildir into which no other text goes.
use Rattle.std.proofs.Common.{◌≡◌, ◌≢◌, ℕ, List, [], ◌∷◌, ◌++◌, length, take, All, Some, refl, ap, arith}
use Rattle.maildir_commands.proofs.Common.{All-cons, All-head, All-nil, AllSpared, AppendsPrefix, AreAlike, AreAllSafe, AreFit, AreIntact, HeldMaildir}
use Rattle.maildir_commands.proofs.Common.{HasItsMessages, IsSafeIn, Text, Report, flat_map, length-append, report_line}
use Rattle.maildir_run.specs.Delivery.{IsSoundAt}
use Rattle.maildir_disk.proofs.Left.SingleHomes.{whole_home}
use Rattle.maildir_commands.specs.Episodes.{Episode}
use Rattle.maildir_commands.proofs.SameMessages.{own_alike}
use Rattle.maildir_commands.specs.Promise.{IsThereOnce, OncePromised, Promised, all_whole}

module _ (text : Text) where
  of_one : (P : Text → Type 0) → P text → All P (text ∷ [])
  of_one P h = All-cons P text [] h (All-nil P)

  the_one : (P : Text → Type 0) → All P (text ∷ []) → P text
  the_one P all = All-head P text [] all

  pub fit_alone : HasItsMessages text → AreFit (text ∷ [])
  fit_alone is = record {
    are = of_one HasItsMessages is;
    alike = of_one (λ one. All (λ other. AreAlike one.messages other.messages) (text ∷ []))
        (of_one (λ other. AreAlike text.messages other.messages) (own_alike is));
  }

  module _ (maildir : HeldMaildir) where
    there_once : AreIntact all_whole text.messages maildir.may_leave → IsSafeIn all_whole maildir text → IsThereOnce text maildir
    there_once intact safe = record {
      now = λ k d below. safe.home k d below refl;
      after_a_cut = λ left may k d below. whole_home all_whole _ left refl (intact left may k d below refl) (safe.survive left may k d below refl);
      is_rooted = safe.is_rooted;
    }

    -- a report was printed, since something was
    none_added : (before line taken rest : List ℕ) → [] ≡ taken ++ rest → before ++ line ≡ before ++ taken → line ≡ []
    none_added before [] taken rest none same = refl
    none_added before (c ∷ line) taken rest none same =
        let some = ap length same in
        let left = length-append before (c ∷ line) in
        let right = length-append before taken in
        let all = ap length none in
        let both = length-append taken rest in
        absurd (omega (arith, some, left, right, all, both))

    -- a line was begun, since something was printed
    begun : (before line : List ℕ) → line ≢ [] → (reports : List Report) → AppendsPrefix (Some before) (Some (before ++ line)) (flat_map report_line reports)
        → AreAllSafe all_whole (take (length reports) (text ∷ [])) maildir → IsSafeIn all_whole maildir text
    begun before line some [] (taken, rest, are, adds) safe = absurd (some (none_added before line taken rest are adds))
    begun before line some (report ∷ reports) lines safe = All-head (IsSafeIn all_whole maildir) text (take (length reports) []) safe

    pub once_promised : {episodes : List Episode} → Promised all_whole (text ∷ []) episodes maildir → OncePromised text episodes maildir
    once_promised promised =
        let sound = the_one (λ t. AllSpared all_whole (IsSoundAt maildir.files) t.messages) promised.sound.sound in
        let intact = the_one (λ t. AreIntact all_whole t.messages maildir.may_leave) promised.sound.intact in
        record {
          sound = λ k d below. sound k d below refl;
          safe = λ before after among.
              there_once intact (the_one (IsSafeIn all_whole maildir) ((promised.left (text ∷ []) 0 before after among).safe refl));
          printed = λ before line among some.
              let printed = (promised.left (text ∷ []) 1 (Some before) (Some (before ++ line)) among).printed refl in
              there_once intact (begun before line some printed.reports printed.lines printed.safe);
        }
