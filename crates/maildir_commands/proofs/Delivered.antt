-- What came of delivering several texts.
use Rattle.std.proofs.Common.{◌≡◌, ◌+◌, ◌<◌, ◌≤◌, ℕ, List, [], ◌∷◌, length, All, Result, Ok, Err, ap, arith}
use Rattle.maildir_commands.proofs.Common.{AreFit, Bytes, DeliversTexts, DeliversOne, HasItsMessages, HeldMaildir, IsSoundFor, Keeps-refl, Text}
use Rattle.maildir_commands.proofs.Common.{Rests, Spared}
use Rattle.maildir_commands.proofs.Known.{swept_rests}
use Rattle.maildir_commands.proofs.Several.{UpTo, all_each, all_safe, none_printed, none_some, on_err_then, on_ok_then, one_more, rest_all_safe}
use Rattle.maildir_commands.proofs.Several.{rest_each, rest_some, rest_sound, sound_more, stay_both, stay_more}
use Rattle.maildir_commands.proofs.Several.{stay_rest, stopped_between, text_at, then_stopped}

module _ {spared : Spared} (texts : List Text) (are : All HasItsMessages texts) where
  -- nothing was opened, or written
  pub none_delivered : {A E : Type 0} {fault : E} {old new : HeldMaildir} {was : Bytes}
      → Rests spared old new → IsSoundFor spared texts old → DeliversTexts {A = A} spared (Err fault) texts old new was was
  none_delivered {was = was} rests sound = record {
    safe = tt;
    each = tt;
    some = none_some (Keeps-refl was);
    stay = stay_rest texts rests;
    still_rooted = rests.still_rooted;
    swept = tt;
    sound = rest_sound texts are rests sound;
  }

  -- the Maildir was opened before, and is closed
  pub closed : {A E : Type 0} (answer : Result A E) (old ready work new : HeldMaildir) {was is : Bytes}
      → Rests spared old ready → Rests spared work new → DeliversTexts spared answer texts ready work was is → DeliversTexts spared answer texts old new was is
  closed answer old ready work new opens closes did = record {
    safe = on_ok_then answer (rest_all_safe texts are closes) did.safe;
    each = on_ok_then answer (rest_each texts are opens) did.each;
    some = on_err_then answer (rest_some texts are opens closes) did.some;
    stay = stay_both texts old ready new (stay_rest texts opens) (stay_both texts ready work new did.stay (stay_rest texts closes));
    still_rooted = λ h. closes.still_rooted (did.still_rooted (opens.still_rooted h));
    swept = on_ok_then answer (swept_rests work new closes) did.swept;
    sound = rest_sound texts are closes did.sound;
  }

module _ {spared : Spared} {texts : List Text} {start now : HeldMaildir} {was mid : Bytes} {n : ℕ} (up : UpTo spared n texts start now was mid) where
  -- all of them
  pub all_delivered : {A E : Type 0} {value : A} → 0 < n → length texts ≤ n → DeliversTexts {E = E} spared (Ok value) texts start now was mid
  all_delivered one most = record {
    safe = all_safe up most;
    each = all_each up most;
    some = tt;
    stay = up.stay;
    still_rooted = up.still_rooted;
    swept = up.swept one;
    sound = up.sound;
  }

  -- some of them, and the next could not be opened
  pub stopped_delivered : {A E : Type 0} {fault : E} → DeliversTexts {A = A} spared (Err fault) texts start now was mid
  stopped_delivered =
      record { safe = tt; each = tt; some = stopped_between up; stay = up.stay; still_rooted = up.still_rooted; swept = tt; sound = up.sound }

  module _ (fit : AreFit texts) (inside : n < length texts) {new : HeldMaildir} {is : Bytes} {A E : Type 0} where
    -- some of them, and the next ended with a fault
    pub then_delivered : {fault : E} → DeliversOne {A = A} spared (Err fault) (text_at texts n) now new mid is
        → DeliversTexts {A = A} spared (Err fault) texts start new was is
    then_delivered one = record {
      safe = tt;
      each = tt;
      some = then_stopped fit inside up one one.stopped;
      stay = stay_more fit inside up one;
      still_rooted = λ h. one.still_rooted (up.still_rooted h);
      swept = tt;
      sound = sound_more fit inside up one;
    }

    -- one more of them
    pub more_delivered : {value : A} → DeliversOne {E = E} spared (Ok value) (text_at texts n) now new mid is → UpTo spared (n + 1) texts start new was is
    more_delivered one = one_more fit inside up one one.safe one.line one.known one.swept

-- where one text is all
pub one_delivered : {spared : Spared} {A E : Type 0} (answer : Result A E) {texts : List Text} → AreFit texts → {text : Text} → texts ≡ text ∷ []
    → {start now : HeldMaildir} {was is : Bytes} → IsSoundFor spared texts start
    → DeliversOne spared answer (text_at texts 0) start now was is → DeliversTexts spared answer texts start now was is
one_delivered (Ok x) {texts} fit one sound did =
    let many : length texts ≡ 1 = ap length one in
    all_delivered (more_delivered (none_printed sound) fit (omega (arith, many)) did) (omega arith) (omega (arith, many))
one_delivered (Err e) {texts} fit one sound did =
    let many : length texts ≡ 1 = ap length one in
    then_delivered (none_printed sound) fit (omega (arith, many)) did
