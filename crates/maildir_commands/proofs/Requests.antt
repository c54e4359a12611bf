-- What is owed for a request, as the work goes on.
use Rattle.std.proofs.Common.{◌≡◌, ◌⊎◌, ◌*◌, ◌^◌, ℕ, List, [], Option, Some, None, Result, Ok, Err, IsErrAnd, OnErr, OnOk, IfErr, refl, sym, ap, subst}
use Rattle.maildir_commands.proofs.Common.{AreAllSafe, Bytes, DeliversAsked, DeliversTexts, Fault, Form, HeldMaildir, IfErr-weaker, IsCauseOf, IsKnown}
use Rattle.maildir_commands.proofs.Common.{Serves, Spared, Text, MayHaveHad, OpensSources, Possible, PrintsEach}
use Rattle.maildir_commands.proofs.Common.{ReadsAtMost, Request, Run, RunFault, SeenMachine, SeenProgram}
use Rattle.maildir_commands.proofs.Common.{Source, ToConvert, ToWrite, Works, WritesAll, WritesMessages, named_files, output_of, seen_with, source_of}
use denote.Ref.{Bor}
use Rattle.std.specs.Io.KnownBytes.{Keeps}
use Rattle.std.specs.Result.{result_and}
use Rattle.maildir_run.specs.declared.fault.RunFault.TheVariants as run
use Rattle.maildir_run.specs.Files.{Honestly}
use Rattle.maildir_commands.specs.declared.command.Command.{Command}
use Rattle.maildir_commands.specs.Private.Words.{name_of, request}
use Rattle.maildir_commands.proofs.Causes.{of_opening, of_read_file, of_read_input, of_reads}
use Rattle.maildir_commands.proofs.Output.{all_given, each_some, prefix_kept, handed_all, handed_each, handed_reports, nothing_prefix, some_kept}
use Rattle.maildir_commands.proofs.Resting.{opens_none}
use Rattle.maildir_commands.proofs.Several.{both_of, possible_whole}

-- where `?` answered this fault
pub ended : {request : Request} {old new : SeenProgram} (answer : Result Unit Fault) {fault : Fault} → IsErrAnd answer (λ given. given ≡ fault)
    → Serves request (Err fault) old new → Serves request answer old new
ended (Ok x) is does = absurd is
ended {request} {old} {new} (Err e) is does = subst (λ fault. Serves request (Err fault) old new) (sym is) does

-- of the file that is named, or of none
pub asked_as : {form : Form} {file this : Option (Bor (List ℕ))} {answer : Result Unit Fault} {old new : SeenProgram}
    → file ≡ this → Serves (ToWrite form (name_of this)) answer old new → Serves (ToWrite form (name_of file)) answer old new
asked_as {form} {answer = answer} {old} {new} is = subst (λ file. Serves (ToWrite form (name_of file)) answer old new) (sym is)

pub named_as : {maildir : List ℕ} {names these : List (List ℕ)} {answer : Result Unit Fault} {old new : SeenProgram}
    → names ≡ these → Serves (ToConvert maildir these) answer old new → Serves (ToConvert maildir names) answer old new
named_as {maildir} {names} {these} {answer} {old} {new} is = subst (λ files. Serves (ToConvert maildir files) answer old new) (sym is)

pub of_command : {command this : Command} {answer : Result Unit Fault} {old new : SeenProgram}
    → command ≡ this → Serves (request this) answer old new → Serves (request command) answer old new
of_command {answer} {old} {new} is = subst (λ command. Serves (request command) answer old new) (sym is)

-- ---- a text is written
pub of_form : {form this : Form} {before after was is : Bytes} {reads : ℕ} {answer : Result ℕ RunFault} → form ≡ this
    → WritesMessages (output_of this) before after was is reads answer → WritesMessages (output_of form) before after was is reads answer
of_form {before = before} {after} {was} {is} {reads} {answer} same =
    subst (λ form. WritesMessages (output_of form) before after was is reads answer) (sym same)

-- of a source that was opened, if it is a file
module _ (form : Form) {file : Option (List ℕ)} {old new : SeenMachine} (opens : OpensSources old new) {input left was is before after : Bytes}
    (has : (spared : Spared) → IsKnown spared file (seen_with old input was) → source_of file (seen_with old input was) ≡ before)
    (had : (spared : Spared) → IsKnown spared file (seen_with old input was) → (t : List ℕ) → MayHaveHad file (seen_with old input was) left t → Possible
    before after t)
    (unread : ¬ (named_files (ToWrite form file) ≡ []) → left ≡ input) where
  stopped : {fault : RunFault} → WritesMessages (output_of form) before after was is (2 ^ 40) (Err fault)
      → Honestly old.honest (λ _. IsCauseOf (ToWrite form file) (seen_with old input was) left (Run fault))
      → Serves (ToWrite form file) (Err (Run fault)) (seen_with old input was) (seen_with new left is)
  stopped did cause = record {
    does = record {
      works = record { all = λ spared h. tt; prefix = λ spared h t may entries mbox. did.prefix t entries (had spared h t may) mbox };
      cause = cause;
      unread = unread;
      texts = opens.texts;
    };
    delivers = tt;
    elsewhere = λ word other. opens.untouched word;
    honest = λ spared h. tt;
  }

  done : {count : ℕ} → WritesMessages (output_of form) before after was is (2 ^ 40) (Ok count)
      → Serves (ToWrite form file) (Ok tt) (seen_with old input was) (seen_with new left is)
  done {count} did = record {
    does = record {
      works = record {
        all = λ spared h. subst (λ source. WritesAll (output_of form) source was is) (sym (has spared h)) (count, did.all);
        prefix = λ spared h t may entries mbox. all_given (output_of form) before after was is did.end (count, did.all) t entries (had spared h t may) mbox;
      };
      cause = λ spared h. tt;
      unread = unread;
      texts = opens.texts;
    };
    delivers = tt;
    elsewhere = λ word other. opens.untouched word;
    honest = opens.honest;
  }

-- from standard input
module _ (form : Form) {machine : SeenMachine} {before after was is : Bytes} where
  pub input_stopped : {fault : RunFault} → WritesMessages (output_of form) before after was is (2 ^ 40) (Err fault)
      → Serves (ToWrite form None) (Err (Run fault)) (seen_with machine before was) (seen_with machine after is)
  input_stopped did =
      stopped form opens_none (λ spared h. refl) (λ spared h t may. may) (λ named. absurd (named refl)) did
      (λ spared h. of_read_input form (seen_with machine before was) after _
      (of_reads was is did.causes (λ e. did.no_from_line (ap Err e)) (λ e. did.spent (ap Err e))))

  pub input_done : {count : ℕ} → WritesMessages (output_of form) before after was is (2 ^ 40) (Ok count)
      → Serves (ToWrite form None) (Ok tt) (seen_with machine before was) (seen_with machine after is)
  input_done = done form opens_none (λ spared h. refl) (λ spared h t may. may) (λ named. absurd (named refl))

-- and from a file
file_had : (old : SeenMachine) (file : List ℕ) (before after : Bytes) → Honestly old.honest (λ _. before ≡ Some (old.text_of file))
    → ReadsAtMost before after (65536 * 2 ^ 40) → (spared : Spared) → old.honest spared → (t : List ℕ) → t ≡ old.text_of file → Possible before after t
file_had old file before after text budget spared h t same = possible_whole before after (subst (λ t. before ≡ Some t) (sym same) (text spared h)) budget

module _ (form : Form) {file : List ℕ} {old new : SeenMachine} (opens : OpensSources old new) {input was : Bytes} where
  pub not_opened : {fault : Fault} → (fault ≡ Source) ⊎ (fault ≡ Run run.OutOfMemory)
      → Honestly old.honest (λ _. fault ≡ Source → old.refuses_source file)
      → Serves (ToWrite form (Some file)) (Err fault) (seen_with old input was) (seen_with new input was)
  not_opened causes refused = record {
    does = record {
      works = record { all = λ spared h. tt; prefix = λ spared h t is. nothing_prefix (output_of form) t was };
      cause = λ spared h. of_opening form (seen_with old input was) input file causes (refused spared h);
      unread = λ named. refl;
      texts = opens.texts;
    };
    delivers = tt;
    elsewhere = λ word other. opens.untouched word;
    honest = λ spared h. tt;
  }

  module _ {before after is : Bytes} (text : (spared : Spared) → old.honest spared → before ≡ Some (old.text_of file)) where
    pub file_stopped : {fault : RunFault} → WritesMessages (output_of form) before after was is (2 ^ 40) (Err fault)
        → Serves (ToWrite form (Some file)) (Err (Run fault)) (seen_with old input was) (seen_with new input is)
    file_stopped did =
        stopped form opens (λ spared h. sym (text spared h)) (file_had old file before after text did.budget) (λ named. refl) did
        (λ spared h. of_read_file form (seen_with old input was) input file before after _ (text spared h) did.budget _
        (of_reads was is did.causes (λ e. did.no_from_line (ap Err e)) (λ e. did.spent (ap Err e))))

    pub file_done : {count : ℕ} → WritesMessages (output_of form) before after was is (2 ^ 40) (Ok count)
        → Serves (ToWrite form (Some file)) (Ok tt) (seen_with old input was) (seen_with new input is)
    file_done did = done form opens (λ spared h. sym (text spared h)) (file_had old file before after text did.budget) (λ named. refl) did

-- ---- what was given to a buffer, and what it keeps
-- with Ok, where all was handed on; else where it was done and not handed on, or not done
both_ok : (answer handed : Result Unit Fault) {P Q : Type 0} → (P → Q) → OnOk answer P → OnOk (result_and answer handed) Q
both_ok (Ok _) (Ok _) f h = f h
both_ok (Ok _) (Err _) f h = tt
both_ok (Err _) handed f h = tt

both_err : (answer handed : Result Unit Fault) {P Q R : Type 0} → (P → R) → (Q → R) → OnErr answer P → OnOk answer Q → OnErr (result_and answer handed) R
both_err (Ok _) (Ok _) f g failed ok = tt
both_err (Ok _) (Err _) f g failed ok = g ok
both_err (Err _) handed f g failed ok = f failed

both_causes : (answer handed : Result Unit Fault) (P : Fault → Type 0) → IfErr answer P → IfErr handed P → IfErr (result_and answer handed) P
both_causes (Ok _) handed P first then = then
both_causes (Err _) handed P first then = first

delivers_both : {spared : Spared} (answer handed : Result Unit Fault) {given kept : Bytes} → Keeps given kept
    → {texts : List Text} {maildir now : HeldMaildir} {was : Bytes} → DeliversTexts spared answer texts maildir now was given
    → DeliversTexts spared (result_and answer handed) texts maildir now was kept
delivers_both {spared} answer handed {given} {kept} keeps {texts} {maildir} {now} {was} did = record {
  safe = both_ok answer handed (λ safe. safe) did.safe;
  each = both_ok answer handed (λ each. handed_each maildir texts was given kept each keeps) did.each;
  some = both_err answer handed (some_kept maildir now texts was given kept keeps)
      (λ (both : PrintsEach spared maildir texts was given × AreAllSafe spared texts now). each_some keeps both.0 both.1) did.some
      (both_of answer _ _ did.each did.safe);
  stay = did.stay;
  still_rooted = did.still_rooted;
  swept = both_ok answer handed (λ swept. swept) did.swept;
  sound = did.sound;
}

module _ (old : SeenProgram) (machine : SeenMachine) (input given kept : Bytes) (keeps : Keeps given kept) (answer handed : Result Unit Fault) where
  works_both : (request : Request) → Works request answer old (seen_with machine input given)
      → Works request (result_and answer handed) old (seen_with machine input kept)
  works_both (ToWrite form file) did = record {
    all = λ spared h. both_ok answer handed (λ all. handed_all (output_of form) (source_of file old) old.output given kept all keeps) (did.all spared h);
    prefix = λ spared h t had entries mbox. prefix_kept old.output given kept keeps (did.prefix spared h t had entries mbox);
  }
  works_both (ToConvert maildir files) did = record {
    printed = both_ok answer handed (λ printed. handed_reports _ old.output given kept printed keeps) did.printed;
    touches = did.touches;
    foreign = did.foreign;
  }

  asked_both : (request : Request) → DeliversAsked request answer old (seen_with machine input given)
      → DeliversAsked request (result_and answer handed) old (seen_with machine input kept)
  asked_both (ToWrite form file) did = tt
  asked_both (ToConvert maildir files) did = λ spared h texts these fit sound. delivers_both answer handed keeps (did spared h texts these fit sound)

  -- whatever came of the work
  pub serves_both : {request : Request} {ending : Result Unit Fault} → ending ≡ result_and answer handed
      → IfErr handed (λ fault. fault ≡ Run run.OutputFault)
      → Serves request answer old (seen_with machine input given) → Serves request ending old (seen_with machine input kept)
  serves_both {request} is causes serves =
      subst (λ ending. Serves request ending old (seen_with machine input kept)) (sym is) (record {
        does = record {
          works = works_both request serves.does.works;
          cause = λ spared h. both_causes answer handed (IsCauseOf request old input) (serves.does.cause spared h)
              (IfErr-weaker handed _ _ (λ fault output. subst (IsCauseOf request old input) (sym output) tt) causes);
          unread = serves.does.unread;
          texts = serves.does.texts;
        };
        delivers = asked_both request serves.delivers;
        elsewhere = serves.elsewhere;
        honest = λ spared h. both_ok answer handed (λ honest. honest) (serves.honest spared h);
      })
