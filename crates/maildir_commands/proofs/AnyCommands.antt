-- What any commands leave of a Maildir that follow one another.
use Rattle.std.proofs.Common.{◌≡◌, ℕ, ◌<◌, List, [], ◌∷◌, ◌++◌, length, get_or, All, Contains, IsTrue, zero, suc, take}
use Rattle.std.proofs.Common.{refl, sym, subst, inl, inr, arith}
use Rattle.std.specs.FinMap.{empty, get-empty}
use Rattle.std.proofs.lemmas.List.Sorted.{IsPermutation-trans}
use Rattle.maildir_commands.proofs.Common.{All-contains, All-take, AllSpared, AreAlike, AreAllSafe, AreAt, AreFit, AreIntact, Bytes, Files, HasBody}
use Rattle.maildir_commands.proofs.Common.{HasItsMessages, HeldMaildir, IsIntact, IsSafeIn, IsSoundFor, Text, OthersStay, Rests, SeenMachine}
use Rattle.maildir_commands.proofs.Common.{SeenProgram, Spared, Stays}
use Rattle.maildir_commands.proofs.Common.{cases_order, is_spared, spared_named}
use Rattle.maildir_run.specs.Delivery.{Message, IsMissing, IsSoundAt, IsSwept}
use Rattle.maildir_run.specs.Files.{name_cmp}
use Rattle.maildir_run.specs.Files.{no_files}
use Rattle.maildir_run.proofs.Call.Moves.{held_none, homes_one}
use Rattle.maildir_run.proofs.Chains.Chains.{chain_keeps, chain_parts}
use Rattle.maildir_disk.proofs.Kept.Sound.{moved_sound}
use Rattle.maildir_disk.proofs.Left.LeftHomes.{HoldsAt, holds_kept, intact_on, missing_intact}
use Rattle.maildir_disk.proofs.Left.SingleHomes.{single_home, single_sound}
use Rattle.maildir_commands.specs.Commands.{LeftByCommand}
use Rattle.maildir_commands.specs.Episodes.{Commanded, Conversion, Cut, Elsewhere, Episode, IsHistory, IsToDeliver, LeadsTo, LeftByPowerCut, Others}
use Rattle.maildir_commands.specs.Promise.{AnyCommands, IsNewTo, Promised}
use Rattle.maildir_commands.proofs.Known.{swept_rests}
use Rattle.maildir_commands.proofs.SameMessages.{named_of}
use Rattle.maildir_commands.proofs.Resting.{rest_same}
use Rattle.maildir_commands.proofs.Several.{rest_all_safe, rest_sound, safe_stay, stay_both, stay_rest}

-- ---- some of the texts
module _ (texts named : List Text) (among : All (Contains texts) named) where
  all_among : (P : Text → Type 0) → All P texts → All P named
  all_among P all k d below = All-contains P texts (get_or named k d) all (among k d below)

  fit_among : AreFit texts → AreFit named
  fit_among fit = record {
    are = all_among HasItsMessages fit.are;
    alike = all_among (λ text. All (λ other. AreAlike text.messages other.messages) named)
        (λ k d below. all_among (λ other. AreAlike (get_or texts k d).messages other.messages) (fit.alike k d below));
  }

  sound_among : {spared : Spared} {maildir : HeldMaildir} → IsSoundFor spared texts maildir → IsSoundFor spared named maildir
  sound_among {spared} {maildir} is = record {
    sound = all_among (λ text. AllSpared spared (IsSoundAt maildir.files) text.messages) is.sound;
    intact = all_among (λ text. AreIntact spared text.messages maildir.may_leave) is.intact;
  }

  stay_among : {spared : Spared} (old new : HeldMaildir) → OthersStay spared named old new → OthersStay spared texts old new
  stay_among old new stay = λ others are alike. stay others are (all_among (λ text. AreAlike others text.messages) alike)

-- ---- no message is there
none_at_all : (m : Message) → IsMissing no_files m
none_at_all m = rw (held_none m.target.base empty (λ q on. get-empty {X = List ℕ} name_cmp q)) refl

pub sound_new : {spared : Spared} {texts : List Text} {maildir : HeldMaildir} → IsNewTo spared texts maildir → IsSoundFor spared texts maildir
sound_new new = record { sound = λ k d below j e inside sp. inl (new.missing k d below j e inside sp); intact = new.intact }

-- ---- from one moment to another
-- The texts stay sound, and those that are safe stay safe.
record Goes (spared : Spared) (texts : List Text) (old new : HeldMaildir) : Type 0 where
  pub sound : IsSoundFor spared texts new
  pub safe : (text : Text) → Contains texts text → IsSafeIn spared old text → IsSafeIn spared new text

module _ {spared : Spared} {texts : List Text} (fit : AreFit texts) {old new : HeldMaildir} (sound : IsSoundFor spared texts old) where
  goes_on : OthersStay spared texts old new → (old.rooted → new.rooted) → Goes spared texts old new
  goes_on stay found =
      let stays : All (λ text. Stays spared text.messages old.files old.may_leave new.files new.may_leave) texts =
      λ k d below. stay (get_or texts k d).messages (named_of (fit.are k d below)) (fit.alike k d below) in
      record {
        sound = record {
          sound = λ k d below. (stays k d below).sound (sound.sound k d below);
          intact = λ k d below. (stays k d below).intact (sound.intact k d below);
        };
        safe = λ text among.
            safe_stay old new (All-contains (λ (t : Text). Stays spared t.messages old.files old.may_leave new.files new.may_leave) texts text stays among)
            found;
      }

  goes_resting : Rests spared old new → Goes spared texts old new
  goes_resting rests = goes_on (stay_rest texts rests) rests.still_rooted

  -- ---- a power cut
  module _ (cut : LeftByPowerCut spared old new) where
    left_intact : (k : ℕ) (d : Text) → k < length texts → AllSpared spared (IsIntact spared cut.left) (get_or texts k d).messages
    left_intact k d below j e inside sp = elim cut.may as (λ _. IsIntact spared cut.left (get_or (get_or texts k d).messages j e)) [
      | inl may ↦ sound.intact k d below cut.left may j e inside sp
      | inr gone ↦ subst (λ left. IsIntact spared left (get_or (get_or texts k d).messages j e)) (sym gone.1)
          (missing_intact (get_or (get_or texts k d).messages j e) no_files (none_at_all (get_or (get_or texts k d).messages j e)))
    ]

    later_holds : (m : Message) → IsTrue (is_spared spared m.target.base) → (later : Files) → new.may_leave later
        → HoldsAt spared m cut.left later
    later_holds m named later may =
        holds_kept m cut.left later
        (IsPermutation-trans _ _ _ (cut.is_there.kept m.target.base named) ((cut.stays later may).kept m.target.base named))

    goes_cut : Goes spared texts old new
    goes_cut = record {
      sound = record {
        sound = λ k d below j e inside sp.
            let m = get_or (get_or texts k d).messages j e in
            let named = spared_named spared _ sp (named_of (fit.are k d below) j e inside) in
            moved_sound m cut.left new.files (cut.is_there.kept m.target.base named)
            (single_sound spared m named old.files cut.left (sound.sound k d below j e inside sp) (left_intact k d below j e inside sp) cut.single);
        intact = λ k d below later may j e inside sp.
            let m = get_or (get_or texts k d).messages j e in
            let named = spared_named spared _ sp (named_of (fit.are k d below) j e inside) in
            intact_on m cut.left later (later_holds m named later may) (left_intact k d below j e inside sp);
      };
      safe = λ text among safe.
          let all = named_of (All-contains HasItsMessages texts text fit.are among) in
          let intacts : AllSpared spared (IsIntact spared cut.left) text.messages =
          All-contains (λ (t : Text). AllSpared spared (IsIntact spared cut.left) t.messages) texts text left_intact among in
          let bodies : AllSpared spared (HasBody cut.left) text.messages = elim cut.may as (λ _. AllSpared spared (HasBody cut.left) text.messages) [
            | inl may ↦ safe.survive cut.left may
            | inr gone ↦ absurd (gone.0 safe.is_rooted)
          ] in
          record {
            home = λ j e inside sp.
                let m = get_or text.messages j e in
                let named = spared_named spared _ sp (all j e inside) in
                homes_one m.target.base m.body cut.left new.files (cut.is_there.kept m.target.base named)
                (single_home spared m named old.files cut.left (safe.home j e inside sp)
                (intacts j e inside sp) (bodies j e inside sp) cut.single);
            survive = λ later may j e inside sp.
                (later_holds (get_or text.messages j e) (spared_named spared _ sp (all j e inside)) later may).steady.still (bodies j e inside sp);
            is_rooted = cut.still_rooted safe.is_rooted;
          };
    }

-- ---- a command
module _ (spared : Spared) {M : Type 0} (seen : M → SeenMachine)
    (alike : (machine : M) (word other : List ℕ) → (seen machine).same word other → AreAt spared ((seen machine).maildir_at word)
    ((seen machine).maildir_at other))
    (still : (one next : M) (word other : List ℕ) → (seen one).same word other → (seen next).same word other)
    (maildir : List ℕ) (texts : List Text) where
  abbrev at : M → HeldMaildir
  at m = (seen m).maildir_at maildir

  -- the machine does as assumed, and the Maildir is sound
  abbrev IsWell : M → Type 0
  IsWell m = (seen m).honest spared × IsSoundFor spared texts (at m)

  module _ (fit : AreFit texts) where
    -- what a command left of these texts goes with the Maildir, as long as they stay safe
    left_on : {these : List Text} {status : ℕ} {was is : Bytes} {old new : M} → All (Contains texts) these → IsSoundFor spared texts (at new)
        → ((some : List Text) → All (Contains texts) some → AreAllSafe spared some (at old) → AreAllSafe spared some (at new))
        → LeftByCommand spared these status was is (at old) → LeftByCommand spared these status was is (at new)
    left_on {these} among sound on left = record {
      sound = sound_among texts these among sound;
      safe = λ zero. on these among (left.safe zero);
      printed = λ one.
          let printed = left.printed one in
          let count = length printed.reports in
          record {
            reports = printed.reports;
            lines = printed.lines;
            safe = on (take count these) (All-take (Contains texts) count these among) printed.safe;
          };
    }

    module _ {Asks : List (List ℕ) → SeenProgram → Bytes → Type 0} {status : ℕ} {was is : Bytes} {old new : M}
        (ran : Commanded spared seen Asks status was is old new) (well : IsWell old) where
      honest_after : (seen new).honest spared
      honest_after = elim (cases_order status 1) as (λ _. (seen new).honest spared) [
        | inl one ↦ ran.again one
        | inr (inl less) ↦ ran.did.still_honest spared well.0 (λ one. absurd (omega (arith, less, one)))
        | inr (inr more) ↦ ran.did.still_honest spared well.0 (λ one. absurd (omega (arith, more, one)))
      ]

    -- What a conversion leaves that was to deliver these texts.
    record Leaves (these : List Text) (status : ℕ) (was is : Bytes) (old new : M) : Type 0 where
      pub among : All (Contains texts) these
      pub stay : OthersStay spared texts (at old) (at new)
      pub still_rooted : (at old).rooted → (at new).rooted
      pub left : LeftByCommand spared these status was is (at new)
      pub swept : status ≡ 0 → IsSwept spared (at new).files

    leaves : {these : List Text} {status : ℕ} {was is : Bytes} {old new : M}
        → Commanded spared seen (IsToDeliver maildir texts these) status was is old new → IsWell old → Leaves these status was is old new
    leaves {these} {old = old} {new = new} ran well =
        let (into, files, words, same, given, among) = ran.asked in
        let there = (alike old into maildir same).1 in
        let here = (alike new into maildir (still old new into maildir same)).0 in
        let sound = rest_sound texts fit.are there well.1 in
        let fits = fit_among texts these among fit in
        let delivers = ran.did.delivers spared well.0 into files these words given fits (sound_among texts these among sound) in
        let first = (seen old).maildir_at into in
        let then = (seen new).maildir_at into in
        let stay : OthersStay spared texts (at old) (at new) =
        stay_both texts (at old) first (at new) (stay_rest texts there)
        (stay_both texts first then (at new) (stay_among texts these among first then delivers.stay) (stay_rest texts here)) in
        let rooted : (at old).rooted → (at new).rooted = λ h. here.still_rooted (delivers.still_rooted (there.still_rooted h)) in
        record {
          among = among;
          stay = stay;
          still_rooted = rooted;
          left = record {
            sound = sound_among texts these among (goes_on fit well.1 stay rooted).sound;
            safe = λ zero. rest_all_safe these fits.are here (delivers.leaves.safe zero);
            printed = λ one.
                let first = delivers.leaves.printed one in
                let count = length first.reports in
                record {
                  reports = first.reports;
                  lines = first.lines;
                  safe = rest_all_safe (take count these) (All-take HasItsMessages count these fits.are) here first.safe;
                };
          };
          swept = λ zero. swept_rests _ _ here (delivers.swept zero);
        }

    -- ---- any episodes
    -- while the power is not cut, what is there stays
    stay_episode : (episode : Episode) (old new : M) → ¬ (episode ≡ Cut) → IsWell old → LeadsTo spared seen maildir texts episode old new
        → OthersStay spared texts (at old) (at new)
    stay_episode (Conversion these status was is) old new uncut well ran = (leaves ran well).stay
    stay_episode Elsewhere old new uncut well (status, was, is, ran) = stay_rest texts ((ran.did.elsewhere maildir ran.asked).rests spared well.0)
    stay_episode Others old new uncut well (rests, honest) = stay_rest texts rests
    stay_episode Cut old new uncut well happens = absurd (uncut refl)

    goes_episode : (episode : Episode) (old new : M) → IsWell old → LeadsTo spared seen maildir texts episode old new
        → Goes spared texts (at old) (at new) × (seen new).honest spared
    goes_episode (Conversion these status was is) old new well ran =
        let did = leaves ran well in
        (goes_on fit well.1 did.stay did.still_rooted, honest_after ran well)
    goes_episode Elsewhere old new well (status, was, is, ran) =
        (goes_resting fit well.1 ((ran.did.elsewhere maildir ran.asked).rests spared well.0), honest_after ran well)
    goes_episode Others old new well (rests, honest) = (goes_resting fit well.1 rests, honest well.0)
    goes_episode Cut old new well (cut, honest) = (goes_cut fit well.1 cut, honest)

    well_after : (episode : Episode) (old new : M) → IsWell old → LeadsTo spared seen maildir texts episode old new → IsWell new
    well_after episode old new well happens =
        let goes = goes_episode episode old new well happens in
        (goes.1, goes.0.sound)

    well_through : (episodes : List Episode) (old new : M) → IsWell old → IsHistory spared seen maildir texts episodes old new → IsWell new
    well_through = chain_keeps (LeadsTo spared seen maildir texts) IsWell well_after

    stay_through : (episodes : List Episode) (old new : M) → ¬ Contains episodes Cut → IsWell old → IsHistory spared seen maildir texts episodes old new
        → OthersStay spared texts (at old) (at new)
    stay_through [] old new uncut well same = subst (λ m. OthersStay spared texts (at old) (at m)) (sym same) (stay_rest texts {old = at old} rest_same)
    stay_through (episode ∷ episodes) old new uncut well (mid, first, rest) =
        stay_both texts (at old) (at mid) (at new)
        (stay_episode episode old mid (λ same. uncut (zero, omega arith, same)) well first)
        (stay_through episodes mid new (λ (k, below, same). uncut (suc k, omega (arith, below), same)) (well_after episode old mid well first) rest)

    safe_through : (these : List Text) → All (Contains texts) these → (episodes : List Episode) (old new : M) → IsWell old × AreAllSafe spared these (at old)
        → IsHistory spared seen maildir texts episodes old new → IsWell new × AreAllSafe spared these (at new)
    safe_through these among = chain_keeps (LeadsTo spared seen maildir texts) (λ m. IsWell m × AreAllSafe spared these (at m)) (λ episode a b is happens. (
      well_after episode a b is.0 happens,
      λ k d below. (goes_episode episode a b is.0 happens).0.safe (get_or these k d) (among k d below) (is.1 k d below),
    ))

    -- what a conversion of a history left is still so at its end
    left_at_end : {these : List Text} {status : ℕ} {was is : Bytes} (episodes : List Episode) (old new : M) → IsWell old
        → IsHistory spared seen maildir texts episodes old new → Contains episodes (Conversion these status was is)
        → LeftByCommand spared these status was is (at new)
    left_at_end [] old new well chain (k, below, same) = absurd (omega (arith, below))
    left_at_end {these} {status} {was} {is} (episode ∷ episodes) old new well (mid, first, rest) (zero, below, same) =
        let ran : Commanded spared seen (IsToDeliver maildir texts these) status was is old mid =
        subst (λ (e : Episode). LeadsTo spared seen maildir texts e old mid) same first in
        let one = leaves ran well in
        let next : IsWell mid = well_after (Conversion these status was is) old mid well ran in
        left_on one.among (well_through episodes mid new next rest).1
        (λ some among safe. (safe_through some among episodes mid new (next, safe) rest).1) one.left
    left_at_end (episode ∷ episodes) old new well (mid, first, rest) (suc k, below, same) =
        left_at_end episodes mid new (well_after episode old mid well first) rest (k, omega (arith, below), same)

  -- ---- the promise
  module _ {episodes : List Episode} {old new : M} (any : AnyCommands spared seen maildir texts episodes old new) where
    well_at : IsWell old
    well_at = (any.as_assumed, any.sound)

    swept_at : (earlier : List Episode) (these : List Text) (was is : Bytes)
        → IsHistory spared seen maildir texts (earlier ++ (Conversion these 0 was is ∷ [])) old new → IsSwept spared (at new).files
    swept_at earlier these was is come =
        let parts = chain_parts (LeadsTo spared seen maildir texts) earlier (Conversion these 0 was is ∷ []) old new come in
        let still = well_through any.fit earlier old parts.0 well_at parts.1 in
        subst (λ m. IsSwept spared (at m).files) (sym parts.2.2) ((leaves any.fit parts.2.1 still).swept refl)

    pub kept : (later : List Episode) (last : M) → IsHistory spared seen maildir texts later new last → ¬ Contains later Cut
        → OthersStay spared texts (at new) (at last)
    kept later last more uncut =
        stay_through any.fit later new last uncut (well_through any.fit episodes old new well_at any.history) more

    pub promised : Promised spared texts episodes (at new)
    promised = record {
      sound = (well_through any.fit episodes old new well_at any.history).1;
      left = λ these status was is among. left_at_end any.fit episodes old new well_at any.history among;
      swept = λ earlier these was is same.
          swept_at earlier these was is (subst (λ all. IsHistory spared seen maildir texts all old new) same any.history);
    }
