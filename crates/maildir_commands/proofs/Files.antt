-- Files that are delivered one after the other, once a first source was.
use Rattle.std.proofs.Common.{◌≡◌, ℕ, ◌+◌, ◌<◌, ◌⊎◌, List, ◌∷◌, length, get_or, map, Contains, Some, Result, Ok, Err, IsErrAnd}
use Rattle.std.proofs.Common.{sym, ap, subst, ◌∙◌, arith, add-one}
use Rattle.maildir_commands.proofs.Common.{AreFit, Bytes, DeliversFiles, DeliversOne, DeliversSource, Fault, IsOfFiles, IsSoundFor, KeepsForeign, Text}
use Rattle.maildir_commands.proofs.Common.{OpensSources, PrintsReports, Run, SeenMachine, SeenMaildir, Source, TouchedConverters, bytes_of, Spared}
use Rattle.maildir_commands.proofs.Common.{get_or-map, length-map}
use Rattle.maildir_run.specs.declared.fault.RunFault.TheVariants as run
use Rattle.maildir_run.proofs.Tasks.QuietRuns.{foreign_then, others_same}
use Rattle.maildir_commands.proofs.Causes.{delivered_file, holds_first, refused_file}
use Rattle.maildir_commands.proofs.Delivered.{all_delivered, more_delivered, stopped_delivered, then_delivered}
use Rattle.maildir_commands.proofs.Delivering.{one_of}
use Rattle.maildir_commands.proofs.Reports.{more_reports, none_reported, one_report}
use Rattle.maildir_commands.proofs.Resting.{opens_none, opens_then}
use Rattle.maildir_run.proofs.Call.Touching.{touched_same, touched_then}
use Rattle.maildir_run.specs.Files.{Honestly}
use Rattle.maildir_commands.proofs.Several.{UpTo, after_length, first_text, none_printed, possible_whole, text_after, text_at, text_read}

-- where `?` answered this fault
pub files_ended : (answer : Result Unit Fault) {fault : Fault} {first : Bytes} {files : List (List ℕ)} {old new : SeenMachine}
    {start now : SeenMaildir} {was is : Bytes} → IsErrAnd answer (λ given. given ≡ fault)
    → DeliversFiles first files (Err fault) old new start now was is → DeliversFiles first files answer old new start now was is
files_ended (Ok x) given did = absurd given
files_ended (Err e) {first = first} {files} {old} {new} {start} {now} {was} {is} given did =
    subst (λ fault. DeliversFiles first files (Err fault) old new start now was is) (sym given) did

-- the texts of the first source and of the files
abbrev Given : SeenMachine → Bytes → List (List ℕ) → List Text → Type 0
Given old first files texts = (text : List ℕ) × (first ≡ Some text) × (bytes_of texts ≡ text ∷ map old.text_of files)

-- So many texts were delivered.
pub record SoFar (n : ℕ) (first : Bytes) (files : List (List ℕ)) (old now : SeenMachine) (start work : SeenMaildir)
    (was is : Bytes) : Type 0 where
  pub opens : OpensSources old now
  pub printed : PrintsReports was is n
  pub honest : Honestly old.honest (λ spared. start.honest spared → work.honest spared)
  pub quiet : start.quiet → work.quiet
  pub touches : TouchedConverters start.held.touched work.held.touched
  pub foreign : start.quiet → KeepsForeign start.held.files work.held.files
  pub delivers : Honestly old.honest (λ spared. start.honest spared → (texts : List Text) → Given old first files texts → AreFit texts
      → IsSoundFor spared texts start.held →
      UpTo spared n texts start.held work.held was is)

-- This source has the text of this number, which is that of a source by its word.
pub record IsText (n : ℕ) (first : Bytes) (files : List (List ℕ)) (old : SeenMachine) (before : Bytes) : Type 0 where
  pub text : Honestly old.honest (λ _. (texts : List Text) → Given old first files texts
      → (n < length texts) × (before ≡ Some (text_at texts n).bytes))
  pub named : Honestly old.honest (λ _. (name : List ℕ) → first ≡ Some (old.text_of name)
      → (file : List ℕ) × Contains (name ∷ files) file × (before ≡ Some (old.text_of file)))

module _ {first : Bytes} {files : List (List ℕ)} {old : SeenMachine} where
  pub none_yet : {start : SeenMaildir} {was : Bytes} → SoFar 0 first files old old start start was was
  none_yet {start} {was} = record {
    opens = opens_none;
    printed = none_reported was;
    honest = λ spared h s. s;
    quiet = λ q. q;
    touches = touched_same;
    foreign = λ q. others_same start.held.files;
    delivers = λ spared h s texts given fit sound. none_printed sound;
  }

  pub first_source : IsText 0 first files old first
  first_source = record {
    text = λ spared h texts given. let many = after_length texts _ _ given.2 in (omega (arith, many), given.1 ∙ ap Some (first_text texts _ _ given.2));
    named = λ spared h name is. (name, holds_first files, is);
  }

module _ {n : ℕ} {first : Bytes} {files : List (List ℕ)} {old now : SeenMachine} {start work : SeenMaildir} {was mid : Bytes}
    (so_far : SoFar n first files old now start work was mid) where
  -- another file was opened, or was not
  module _ {next : SeenMachine} (opens : OpensSources now next) where
    not_opened : {fault : Fault}
        → Honestly old.honest (λ _. (name : List ℕ) → first ≡ Some (old.text_of name) → IsOfFiles old (name ∷ files) fault)
        → DeliversFiles first files (Err fault) old next start work was mid
    not_opened cause = record {
      opens = opens_then so_far.opens opens;
      printed = tt;
      cause = cause;
      delivers = λ spared h s texts text is are fit sound. stopped_delivered (so_far.delivers spared h s texts (text, is, are) fit sound);
      touches = so_far.touches;
      foreign = so_far.foreign;
      honest = λ spared h s. tt;
    }

    module _ {before after is : Bytes} {new : SeenMaildir} (this : IsText n first files old before) where
      one : {answer : Result Unit Fault} → DeliversSource answer before after mid is work new
          → (spared : Spared) (h : old.honest spared) (s : start.honest spared)
          (texts : List Text) (given : Given old first files texts) → AreFit texts → IsSoundFor spared texts start.held
          → DeliversOne spared answer (text_at texts n) work.held new.held mid is
      one did spared h s texts given fit sound =
          let text = this.text spared h texts given in
          let is_sound = (so_far.delivers spared h s texts given fit sound).sound in
          one_of spared mid is (so_far.honest spared h s) (text_at texts n) (fit.are n _ text.0) (possible_whole _ _ text.1 did.keeps.budget)
          (is_sound.sound n _ text.0) (is_sound.intact n _ text.0) did

      -- it was delivered, or was not
      pub more : DeliversSource (Ok tt) before after mid is work new → SoFar (n + 1) first files old next start new was is
      more did = record {
        opens = opens_then so_far.opens opens;
        printed = more_reports was mid is so_far.printed (one_report _ did.printed);
        honest = λ spared h s. did.printed.said.honest spared (so_far.honest spared h s);
        quiet = λ q. did.printed.said.quiet (so_far.quiet q);
        touches = touched_then so_far.touches did.keeps.touches;
        foreign = λ q. foreign_then _ _ _ (so_far.foreign q) (did.keeps.foreign (so_far.quiet q));
        delivers = λ spared h s texts given fit sound.
            more_delivered (so_far.delivers spared h s texts given fit sound) fit (this.text spared h texts given).0 (one did spared h s texts given fit sound);
      }

      pub not_delivered : {fault : Fault} → DeliversSource (Err fault) before after mid is work new
          → DeliversFiles first files (Err fault) old next start new was is
      not_delivered {fault} did = record {
        opens = opens_then so_far.opens opens;
        printed = tt;
        cause = λ spared h name is.
            let source = this.named spared h name is in
            delivered_file old name files _ _ _ source.0 source.1 source.2 did.keeps.budget fault did.stopped.cause;
        delivers = λ spared h s texts text is are fit sound.
            let given : Given old first files texts = (text, is, are) in
            then_delivered (so_far.delivers spared h s texts given fit sound) fit (this.text spared h texts given).0 (one did spared h s texts given fit sound);
        touches = touched_then so_far.touches did.keeps.touches;
        foreign = λ q. foreign_then _ _ _ (so_far.foreign q) (did.keeps.foreign (so_far.quiet q));
        honest = λ spared h s. tt;
      }

  -- each was delivered
  pub all_done : n ≡ 1 + length files → DeliversFiles first files (Ok tt) old now start work was mid
  all_done all = record {
    opens = so_far.opens;
    printed = subst (PrintsReports was mid) all so_far.printed;
    cause = λ spared h name is. tt;
    delivers = λ spared h s texts text is are fit sound.
        let many = after_length texts _ _ are in
        all_delivered (so_far.delivers spared h s texts (text, is, are) fit sound) (omega (arith, all)) (omega (arith, all, many));
    touches = so_far.touches;
    foreign = so_far.foreign;
    honest = so_far.honest;
  }

-- the next of the files
module _ {X : Type 0} (f : X → List ℕ) (rest : List X) {i : ℕ} {first : Bytes} {old now : SeenMachine} {start work : SeenMaildir}
    {was is : Bytes} (so_far : SoFar (i + 1) first (map f rest) old now start work was is)
    (below : i < length rest) {x : X} (at : x ≡ get_or rest i x) {word : List ℕ} (value : word ≡ f x) where
  place : (i < length (map f rest)) × (get_or (map f rest) i (f x) ≡ f x)
  place =
      let same = length-map rest f in
      (omega (arith, same, below), get_or-map f rest i x (f x) below ∙ ap f (sym at))

  holds : (name : List ℕ) → Contains (name ∷ map f rest) (f x)
  holds name =
      let inside = place.0 in
      (i + 1, omega (arith, inside), rw add-one place.1)

  pub next_source : {before : Bytes} → Honestly now.honest (λ _. before ≡ Some (now.text_of word)) → IsText (i + 1) first (map f rest) old before
  next_source reads = record {
    text = λ spared h texts given.
        let many = after_length texts _ _ given.2 in
        let inside = place.0 in
        let read = text_read (reads spared (so_far.opens.honest spared h)) (so_far.opens.texts spared h) value in
        (omega (arith, many, inside), read ∙ ap Some (text_after texts _ _ given.2 inside place.1));
    named = λ spared h name is. (f x, holds name, text_read (reads spared (so_far.opens.honest spared h)) (so_far.opens.texts spared h) value);
  }

  pub refused_next : {next : SeenMachine} → OpensSources now next → {fault : Fault} → (fault ≡ Source) ⊎ (fault ≡ Run run.OutOfMemory)
      → Honestly now.honest (λ _. fault ≡ Source → now.refuses_source word)
      → DeliversFiles first (map f rest) (Err fault) old next start work was is
  refused_next opens {fault} causes refused =
      not_opened so_far opens (λ spared h name is.
      refused_file old name (map f rest) (f x) (holds name) fault causes
      (λ e. so_far.opens.refusals spared h (f x) (subst now.refuses_source value (refused spared (so_far.opens.honest spared h) e))))
