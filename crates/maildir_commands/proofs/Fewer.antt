-- What is said of a history where more messages are spared holds where fewer are.
use Rattle.std.proofs.Common.{ℕ, List, [], ◌∷◌, IsTrue, inl, inr, sym, ◌∙◌, arith}
use Rattle.maildir_run.specs.Files.{AreFewer, Files, KeepsHomes, Spared, acted}
use Rattle.maildir_run.specs.Several.{Text}
use Rattle.maildir_run.proofs.Call.Fewer.{fewer_acted, fewer_left, spared_too}
use Rattle.maildir_run.proofs.Call.Outsiders.{fewer_spared}
use Rattle.maildir_disk.specs.PowerCuts.{IsSingle, LeftByOthers}
use Rattle.maildir_commands.proofs.Common.{Bytes, HeldMaildir, Rests, SeenMachine, SeenProgram, cases_order}
use Rattle.maildir_commands.specs.Episodes.{Commanded, Episode, IsHistory, LeadsTo, LeftByPowerCut}
use Rattle.maildir_commands.specs.Episodes.Episode.{Conversion, Cut, Elsewhere, Others}

module _ {fewer more : Spared} (within : AreFewer fewer more) where
  fewer_left_by : {before now : Files} → LeftByOthers more before now → LeftByOthers fewer before now
  fewer_left_by {before} h =
      let alike = fewer_left (acted more) (acted fewer) (fewer_spared more fewer within.bases) h.kept before in
      record { kept = alike.others; are = h.are ∙ sym alike.are; whole = λ is. alike.whole (h.whole (within.whole is)) }

  fewer_rest : (old new : HeldMaildir) → Rests more old new → Rests fewer old new
  fewer_rest old new rests =
      let acts = fewer_acted within rests.actions old.files in
      record {
        actions = acts.0;
        files_are = rests.files_are ∙ sym acts.1;
        left = λ left may. let was = rests.left left may in (was.0, was.1, fewer_left_by was.2);
        still_rooted = rests.still_rooted;
        touches = rests.touches;
      }

  fewer_homes : {old new : Files} → KeepsHomes more old new → KeepsHomes fewer old new
  fewer_homes keeps = record { kept = λ b sp. keeps.kept b (spared_too within b sp) }

  module _ (as_whole : IsTrue more.whole → IsTrue fewer.whole) where
    fewer_single : (s left : Files) → IsSingle more s left → IsSingle fewer s left
    fewer_single s left (inl whole) = inl (as_whole whole)
    fewer_single s left (inr one) = inr (λ b sp. one b (spared_too within b sp))

    pub fewer_cut : (old new : HeldMaildir) → LeftByPowerCut more old new → LeftByPowerCut fewer old new
    fewer_cut old new cut = record {
      left = cut.left;
      may = cut.may;
      single = fewer_single old.files cut.left cut.single;
      is_there = fewer_homes cut.is_there;
      stays = λ later may. fewer_homes (cut.stays later may);
      still_rooted = cut.still_rooted;
    }

    module _ {M : Type 0} (seen : M → SeenMachine) (still : (machine : M) → (seen machine).honest more → (seen machine).honest fewer)
        (maildir : List ℕ) (texts : List Text) where
      -- a command leaves a machine that does as assumed
      module _ {Asks : List (List ℕ) → SeenProgram → Bytes → Type 0} {status : ℕ} {was is : Bytes} {old new : M}
          (ran : Commanded more seen Asks status was is old new) where
        ended : (seen old).honest more → (seen new).honest more
        ended h = elim (cases_order status 1) as (λ _. (seen new).honest more) [
          | inl one ↦ ran.again one
          | inr (inl less) ↦ ran.did.still_honest more h (λ one. absurd (omega (arith, less, one)))
          | inr (inr greater) ↦ ran.did.still_honest more h (λ one. absurd (omega (arith, greater, one)))
        ]

        fewer_commanded : Commanded fewer seen Asks status was is old new
        fewer_commanded = record {
          words = ran.words;
          input = ran.input;
          rest = ran.rest;
          asked = ran.asked;
          did = ran.did;
          again = λ ends. still new (ran.again ends);
        }

      fewer_episode : (episode : Episode) (old new : M) → (seen old).honest more → LeadsTo more seen maildir texts episode old new
          → LeadsTo fewer seen maildir texts episode old new × (seen new).honest more
      fewer_episode (Conversion these status was is) old new h ran = (fewer_commanded ran, ended ran h)
      fewer_episode Elsewhere old new h (status, was, is, ran) = ((status, was, is, fewer_commanded ran), ended ran h)
      fewer_episode Others old new h (rests, honest) = ((fewer_rest _ _ rests, λ _. still new (honest h)), honest h)
      fewer_episode Cut old new h (cut, honest) = ((fewer_cut _ _ cut, still new honest), honest)

      pub fewer_history : (episodes : List Episode) (old new : M) → (seen old).honest more → IsHistory more seen maildir texts episodes old new
          → IsHistory fewer seen maildir texts episodes old new
      fewer_history [] old new h same = same
      fewer_history (episode ∷ episodes) old new h (mid, first, rest) =
          let one = fewer_episode episode old mid h first in
          (mid, one.0, fewer_history episodes mid new one.1 rest)
