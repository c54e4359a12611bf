-- A conversion: sources are opened, then the Maildir, which is closed once they were delivered.
use Rattle.std.proofs.Common.{◌≡◌, ◌⊎◌, ◌<◌, ℕ, List, [], ◌∷◌, length, map, max, Some, Result, Ok, Err, IfErr, OnOk, refl, sym, ap, subst, ◌∙◌, arith}
use Rattle.maildir_commands.proofs.Common.{AreFit, Bytes, ClosesMaildir, DeliversTexts, DeliversFiles, DeliversSource, Serves, Fault, GivesTexts, IfErr-weaker}
use Rattle.maildir_commands.proofs.Common.{IsCauseOf, IsSoundFor, KeepsForeign, Text, OpenFault, OpensMaildir, OpensSources, Possible, PrintsReports}
use Rattle.maildir_commands.proofs.Common.{Run, SeenMachine, SeenMaildir, Source, ToConvert, TouchedConverters, bytes_of, fault_of_opening, opened}
use Rattle.maildir_commands.proofs.Common.{Untouched, seen_folder, seen_with, Spared, all_bases}
use Rattle.maildir_run.specs.declared.fault.RunFault.TheVariants as run
use Rattle.maildir_disk.specs.declared.disk_folder.DiskFolder.{DiskFolder}
use Rattle.maildir_disk.specs.declared.system.System.{Ghosts}
use Rattle.maildir_commands.proofs.Causes.{files_before, holds_first, of_files, of_input, of_maildir, refused_file}
use Rattle.maildir_commands.proofs.Delivered.{closed, none_delivered, one_delivered}
use Rattle.maildir_commands.proofs.Delivering.{one_of}
use Rattle.maildir_commands.proofs.Reports.{one_each, one_report}
use Rattle.maildir_commands.proofs.Resting.{StillDoes, foreign_within, opens_none, still_opening, untouched_foreign, untouched_then}
use Rattle.maildir_run.proofs.Call.Touching.{touched_none, touched_then}
use Rattle.maildir_run.specs.Files.{Honestly}
use Rattle.maildir_commands.proofs.Several.{on_ok_then, rest_sound, text_at}

-- the first file was not opened
pub source_refused : {maildir word first : List ℕ} {rest : List (List ℕ)} {old new : SeenMachine} {input was : Bytes} {fault : Fault}
    → word ≡ first → OpensSources old new → (fault ≡ Source) ⊎ (fault ≡ Run run.OutOfMemory)
    → Honestly old.honest (λ _. fault ≡ Source → old.refuses_source word)
    → Serves (ToConvert maildir (first ∷ rest)) (Err fault) (seen_with old input was) (seen_with new input was)
source_refused {maildir} {first = first} {rest} {old} {input = input} {was} {fault} value sources causes refused = record {
  does = record {
    works = record {
      printed = tt;
      touches = λ spared h. touched_none ((sources.untouched maildir).rests spared h).touches;
      foreign = untouched_foreign (sources.untouched maildir);
    };
    cause = λ spared h.
        of_files maildir first rest (seen_with old input was) input fault
        (refused_file old first rest first (holds_first rest) fault causes (λ e. subst old.refuses_source value (refused spared h e)));
    unread = λ named. refl;
    texts = sources.texts;
  };
  delivers = λ spared h texts given fit sound. none_delivered texts fit.are ((sources.untouched maildir).rests spared h) sound;
  elsewhere = λ word other. sources.untouched word;
  honest = λ spared h. tt;
}

-- what standard input had was delivered
input_delivered : (spared : Spared) {before after was is : Bytes} {old new : SeenMaildir} {answer : Result Unit Fault}
    → DeliversSource answer before after was is old new → old.honest spared → (texts : List Text) {text : Text} → texts ≡ text ∷ []
    → Possible before after text.bytes → AreFit texts → IsSoundFor spared texts old.held → DeliversTexts spared answer texts old.held new.held was is
input_delivered spared {before} {after} {was} {is} {answer = answer} did h texts one possible fit sound =
    let many : length texts ≡ 1 = ap length one in
    let inside : 0 < length texts = omega (arith, many) in
    one_delivered answer fit one sound
    (one_of spared was is h (text_at texts 0) (fit.are 0 _ inside)
    (subst (λ (t : Text). Possible before after t.bytes) (sym (ap (λ ts. text_at ts 0) one)) possible)
    (sound.sound 0 _ inside) (sound.intact 0 _ inside) did)

module _ {M S File : Type 0} (seen : M → SeenMachine) (f : Ghosts S File)
    (alike : (one other : M) (word another : List ℕ) → (seen one).same word another → (seen other).same word another)
    (sure : (machine : M) (spared : Spared) → (seen machine).quiet → (seen machine).honest spared)
    {maildir : List ℕ} {files : List (List ℕ)} {old mid : M} {input was : Bytes} (sources : OpensSources (seen old) (seen mid)) where
  -- the Maildir was not opened
  pub none_into : {new : M} {reason : OpenFault} → OpensMaildir (opened f) maildir (Err reason) (seen mid) (seen new)
      → Serves (ToConvert maildir files) (Err (fault_of_opening reason)) (seen_with (seen old) input was) (seen_with (seen new) input was)
  none_into {reason = reason} folder =
      let stays = untouched_then (still_opening sources) (sources.untouched maildir) folder.untouched in
      record {
        does = record {
          works = record { printed = tt; touches = λ spared h. touched_none (stays.rests spared h).touches; foreign = untouched_foreign stays };
          cause = λ spared h.
              of_maildir maildir files (seen_with (seen old) input was) input reason
              (sources.maildirs spared h maildir reason (folder.refused spared (sources.honest spared h)));
          unread = λ named. refl;
          texts = λ spared h. folder.texts spared (sources.honest spared h) ∙ sources.texts spared h;
        };
        delivers = λ spared h texts given fit sound. none_delivered texts fit.are (stays.rests spared h) sound;
        elsewhere = λ word other.
            untouched_then (still_opening sources) (sources.untouched word) (folder.others word (λ is. other (alike mid old maildir word is)));
        honest = λ spared h. tt;
      }

  -- it was opened, and is closed
  module _ {ready work new : M} (start now : DiskFolder S) {left is : Bytes} {answer : Result Unit Fault}
      (folder : OpensMaildir (opened f) maildir (Ok start.system) (seen mid) (seen ready))
      (closing : ClosesMaildir maildir (opened f now.system) (seen work) (seen new))
      (each : OpensSources (seen ready) (seen work)) where
    converted : OnOk answer (PrintsReports was is (max 1 (length files)))
        → Honestly (seen old).honest (λ spared. (texts : List Text) → GivesTexts (seen old).text_of input left files texts → AreFit texts
        → IsSoundFor spared texts (opened f start.system).held
        → DeliversTexts spared answer texts (opened f start.system).held (opened f now.system).held was is)
        → TouchedConverters (opened f start.system).held.touched (opened f now.system).held.touched
        → ((opened f start.system).quiet → KeepsForeign (opened f start.system).held.files (opened f now.system).held.files)
        → Honestly (seen old).honest (λ spared. OnOk answer ((opened f now.system).honest spared))
        → Honestly (seen old).honest (λ _. IfErr answer (IsCauseOf (ToConvert maildir files) (seen_with (seen old) input was) left))
        → (¬ (files ≡ []) → left ≡ input)
        → Serves (ToConvert maildir files) answer (seen_with (seen old) input was) (seen_with (seen new) left is)
    converted printed delivers touches foreign honest cause unread =
        let ready_does : StillDoes (seen old) (seen ready) = record {
          honest = λ spared h. folder.honest spared (sources.honest spared h);
          quiet = λ q. folder.quiet (sources.quiet q);
        } in
        let is_open = λ (spared : Spared) (h : (seen old).honest spared).
        each.still_open spared (ready_does.honest spared h) maildir (folder.is_open spared (sources.honest spared h)) in
        let opens = untouched_then (still_opening sources) (sources.untouched maildir) folder.opens in
        let closes : Untouched (seen old) (opened f now.system).held ((seen new).maildir_at maildir) = record {
          rests = λ spared h. (closing.closes (is_open spared h)).rests spared (each.honest spared (ready_does.honest spared h));
          quietly = λ q. (closing.closes (is_open all_bases (sure old all_bases q))).quietly (each.quiet (ready_does.quiet q));
        } in
        record {
          does = record {
            works = record {
              printed = printed;
              touches = λ spared h.
                  touched_then (touched_none (opens.rests spared h).touches) (touched_then touches (touched_none (closes.rests spared h).touches));
              foreign = λ q. foreign_within (opens.quietly q) (foreign (folder.works_quietly (sources.quiet q))) (closes.quietly q);
            };
            cause = cause;
            unread = unread;
            texts = λ spared h.
                closing.texts spared (each.honest spared (ready_does.honest spared h)) ∙
                (each.texts spared (ready_does.honest spared h) ∙ (folder.texts spared (sources.honest spared h) ∙ sources.texts spared h));
          };
          delivers = λ spared h texts given fit sound.
              closed texts fit.are answer _ _ _ _ (opens.rests spared h) (closes.rests spared h)
              (delivers spared h texts given fit (rest_sound texts fit.are (opens.rests spared h) sound));
          elsewhere = λ word other.
              untouched_then ready_does
              (untouched_then (still_opening sources) (sources.untouched word) (folder.others word (λ is. other (alike mid old maildir word is))))
              (untouched_then (still_opening each) (each.untouched word) (closing.others word (λ is. other (alike work old maildir word is))));
          honest = λ spared h. on_ok_then answer (closing.honest spared (each.honest spared (ready_does.honest spared h))) (honest spared h);
        }

-- standard input was delivered into it, or files
module _ {M S File : Type 0} (seen : M → SeenMachine) (f : Ghosts S File)
    (alike : (one other : M) (word another : List ℕ) → (seen one).same word another → (seen other).same word another)
    (sure : (machine : M) (spared : Spared) → (seen machine).quiet → (seen machine).honest spared)
    (start now : DiskFolder S) {maildir : List ℕ} {old ready new : M} {input was is : Bytes} {answer : Result Unit Fault} where
  pub input_converted : {left : Bytes} → OpensMaildir (opened f) maildir (Ok start.system) (seen old) (seen ready)
      → ClosesMaildir maildir (opened f now.system) (seen ready) (seen new)
      → DeliversSource answer input left was is (seen_folder f start) (seen_folder f now)
      → Serves (ToConvert maildir []) answer (seen_with (seen old) input was) (seen_with (seen new) left is)
  input_converted {left} folder closing one =
      converted seen f alike sure opens_none start now folder closing opens_none (on_ok_then answer (one_report _) one.printed)
      (λ spared h texts given fit sound. input_delivered spared one (folder.works spared h) texts given.1 given.2 fit sound) one.keeps.touches one.keeps.foreign
      (λ spared h. on_ok_then answer (λ printed. printed.said.honest spared (folder.works spared h)) one.printed)
      (λ spared h. IfErr-weaker answer _ _ (λ fault stops. of_input maildir (seen_with (seen old) input was) left fault stops.cause) one.stopped)
      (λ named. absurd (named refl))

  pub files_converted : {mid work : M} {word first : List ℕ} {rest : List (List ℕ)} {before : Bytes} → OpensSources (seen old) (seen mid)
      → OpensMaildir (opened f) maildir (Ok start.system) (seen mid) (seen ready) → ClosesMaildir maildir (opened f now.system) (seen work) (seen new)
      → word ≡ first → Honestly (seen old).honest (λ _. before ≡ Some ((seen old).text_of word))
      → DeliversFiles before rest answer (seen ready) (seen work) (seen_folder f start) (seen_folder f now) was is
      → Serves (ToConvert maildir (first ∷ rest)) answer (seen_with (seen old) input was) (seen_with (seen new) input is)
  files_converted {first = first} {rest} sources folder closing value text each =
      let good = λ (spared : Spared) (h : (seen old).honest spared). folder.honest spared (sources.honest spared h) in
      let same = λ (spared : Spared) (h : (seen old).honest spared). folder.texts spared (sources.honest spared h) ∙ sources.texts spared h in
      let reads = λ (spared : Spared) (h : (seen old).honest spared). text spared h ∙ ap (λ word. Some ((seen old).text_of word)) value in
      let printed = subst (λ n. OnOk answer (PrintsReports was is n)) (one_each first rest) each.printed in
      converted seen f alike sure sources start now folder closing each.opens printed
      (λ spared h texts given fit sound.
      each.delivers spared (good spared h) (folder.works spared (sources.honest spared h)) texts ((seen old).text_of first) (reads spared h)
      (subst (λ (f : List ℕ → List ℕ). bytes_of texts ≡ (seen old).text_of first ∷ map f rest) (sym (same spared h)) given) fit sound)
      each.touches each.foreign (λ spared h. each.honest spared (good spared h) (folder.works spared (sources.honest spared h)))
      (λ spared h. IfErr-weaker answer _ _ (λ fault is. of_files maildir first rest (seen_with (seen old) input was) input fault
      (files_before (seen old) (seen ready) (first ∷ rest) (same spared h)
      (λ word refused. sources.refusals spared h word (folder.refusals spared (sources.honest spared h) word refused)) fault is))
      (each.cause spared (good spared h) first (reads spared h ∙ ap (λ (f : List ℕ → List ℕ). Some (f first)) (sym (same spared h)))))
      (λ named. refl)
