-- What a command did to Maildirs, by its words and its status.
use Rattle.std.proofs.Common.{◌≡◌, ℕ, suc, zero, List, [], ◌∷◌, length, take, codes, Bool, OnOk, Result, Ok, Err, refl, sym, ap, subst, arith}
use Rattle.std.specs.Io.KnownBytes.{Keeps}
use Rattle.maildir_run.specs.Delivery.{IsSwept}
use Rattle.maildir_commands.proofs.Common.{AreAllSafe, AreReportsOf, AskFor, Bytes, DeliversTexts, Did, Fault, HeldMaildir, IsOther, Text, PrintsSome}
use Rattle.maildir_commands.proofs.Common.{Report, Request, SeenMachine, SeenProgram, Serves, Spared, ToConvert, ToWrite, also, seen_at}
use Rattle.maildir_commands.specs.Commands.{ChangesMaildirs, Delivers, IsElsewhere, LeftByCommand, OfConversion, PrintedSafely}
use Rattle.maildir_commands.specs.Faults.{fault_text, told}
use Rattle.maildir_commands.specs.Program.{Done, RanOn, Stopped, Tells, TellsTruth, WrongWords}
use Rattle.maildir_commands.specs.Seen.{Streams}
use Rattle.maildir_commands.specs.Words.{AreOfAForm}
use Rattle.maildir_commands.proofs.Forms.{one_request}
use Rattle.maildir_commands.proofs.Resting.{rest_same}

-- ---- the first of some texts
as_many : (spared : Spared) (has : List ℕ → Bool) (left : ℕ) (reports : List Report) (texts : List Text)
    → AreReportsOf spared has left texts reports → length reports ≡ length texts
as_many spared has left [] [] is = refl
as_many spared has left [] (text ∷ texts) is = absurd is
as_many spared has left (report ∷ reports) [] is = absurd is
as_many spared has left (report ∷ reports) (text ∷ texts) (first, rest) = ap suc (as_many spared (also has text) 0 reports texts rest)

take_of_take : (n : ℕ) (texts : List Text) → take (length (take n texts)) texts ≡ take n texts
take_of_take zero [] = refl
take_of_take (suc n) [] = refl
take_of_take zero (text ∷ texts) = refl
take_of_take (suc n) (text ∷ texts) = ap (λ ts. text ∷ ts) (take_of_take n texts)

pub some_safely : {spared : Spared} {old new : HeldMaildir} {texts : List Text} {was is : Bytes} → PrintsSome spared old new texts was is
    → PrintedSafely spared texts was is new
some_safely {spared} {new = new} {texts} some =
    let count : length some.reports ≡ length (take some.n texts) = as_many spared _ _ some.reports (take some.n texts) some.true_of in
    record {
      reports = some.reports;
      lines = some.lines;
      safe = subst (λ k. AreAllSafe spared (take k texts) new) (sym count)
          (subst (λ ts. AreAllSafe spared ts new) (sym (take_of_take some.n texts)) some.safe);
    }

-- ---- the status of an answer
abbrev pub IsStatusOf : {A E : Type 0} → Result A E → ℕ → Type 0
IsStatusOf (Ok _) status = status ≡ 0
IsStatusOf (Err _) status = status ≡ 1

module _ {spared : Spared} {status : ℕ} {texts : List Text} {old new : HeldMaildir} {was is : Bytes} where
  left_as : {A E : Type 0} (answer : Result A E) → IsStatusOf answer status → DeliversTexts spared answer texts old new was is
      → LeftByCommand spared texts status was is new
  left_as (Ok x) done did = record { sound = did.sound; safe = λ _. did.safe; printed = λ one. absurd (omega (arith, done, one)) }
  left_as (Err e) one did = record { sound = did.sound; safe = λ done. absurd (omega (arith, done, one)); printed = λ _. some_safely did.some }

  swept_as : {A E : Type 0} (answer : Result A E) → IsStatusOf answer status → DeliversTexts spared answer texts old new was is
      → status ≡ 0 → IsSwept spared new.files
  swept_as (Ok x) done did _ = did.swept
  swept_as (Err e) one did done = absurd (omega (arith, done, one))

  delivers_as : {A E : Type 0} (answer : Result A E) → IsStatusOf answer status → DeliversTexts spared answer texts old new was is
      → Delivers spared status texts old new was is
  delivers_as answer says did =
      record { leaves = left_as answer says did; swept = swept_as answer says did; stay = did.stay; still_rooted = did.still_rooted }

  truth_as : {A E : Type 0} (answer : Result A E) → IsStatusOf answer status → DeliversTexts spared answer texts old new was is
      → TellsTruth spared status texts old new was is
  truth_as (Ok x) done did = record { each = λ _. did.each; some = λ one. absurd (omega (arith, done, one)) }
  truth_as (Err e) one did = record { each = λ done. absurd (omega (arith, done, one)); some = λ _. did.some }

-- ---- words that ask for this
other_of : (words : List (List ℕ)) (request : Request) → AskFor words request → (machine : SeenMachine) (word : List ℕ)
    → IsElsewhere words machine word → IsOther request machine word
other_of words (ToWrite form file) asks machine word elsewhere = tt
other_of words (ToConvert maildir files) asks machine word elsewhere = elsewhere maildir files asks

-- an answer that is no fault
not_failed : (answer : Result Unit Fault) {status : ℕ} → IsStatusOf answer status → {P : Type 0} → OnOk answer P → ¬ (status ≡ 1) → P
not_failed (Ok x) done p none = p
not_failed (Err e) one p none = absurd (none one)

module _ (words : List (List ℕ)) {request : Request} {answer : Result Unit Fault} {old new : SeenProgram} (asks : AskFor words request)
    (serves : Serves request answer old new) where
  -- they ask for nothing else
  whatever : (other : Request) → AskFor words other → Serves other answer old new
  whatever other asked = subst (λ these. Serves these answer old new) (one_request words request other asks asked) serves

  pub did_all : Did words answer old new
  did_all = record { form = (request, asks); does = λ other asked. (whatever other asked).does }

  module _ {status : ℕ} (says : IsStatusOf answer status) where
    pub maildirs_of : ChangesMaildirs words status old new
    maildirs_of = record {
      delivers = λ spared h into files texts is given fit sound.
          delivers_as answer says ((whatever (ToConvert into files) is).delivers spared h texts given fit sound);
      elsewhere = λ word other. serves.elsewhere word (other_of words request asks old.machine word other);
      still_honest = λ spared h. not_failed answer says (serves.honest spared h);
    }

    pub truth_of : OfConversion words old new.input (λ spared into texts.
        TellsTruth spared status texts (old.machine.maildir_at into) (new.machine.maildir_at into) old.output new.output)
    truth_of = λ spared h into files texts is given fit sound.
        truth_as answer says ((whatever (ToConvert into files) is).delivers spared h texts given fit sound)

-- ---- what is so at the end
module _ {M : Type 0} (seen : M → SeenMachine) {words : List (List ℕ)} {old new : M} {was is : Streams} where
  pub ran_done : {request : Request} → AskFor words request → Serves request (Ok tt) (seen_at (seen old) was) (seen_at (seen new) is)
      → Keeps was.errors is.errors → RanOn seen words 0 old new was is
  ran_done asks serves keeps = record {
    ending = Done;
    status_is = refl;
    ran = (did_all words asks serves, keeps);
    maildirs = maildirs_of words asks serves refl;
    true_of = truth_of words asks serves refl;
    untouched = λ two. absurd (cc two);
  }

  pub ran_stopped : {request : Request} {fault : Fault} → AskFor words request
      → Serves request (Err fault) (seen_at (seen old) was) (seen_at (seen new) is) → Tells (told (fault_text fault)) was.errors is.errors
      → RanOn seen words 1 old new was is
  ran_stopped {fault = fault} asks serves tells = record {
    ending = Stopped fault;
    status_is = refl;
    ran = (did_all words asks serves, tells);
    maildirs = maildirs_of words asks serves refl;
    true_of = truth_of words asks serves refl;
    untouched = λ two. absurd (cc two);
  }

pub ran_wrong : {M : Type 0} (seen : M → SeenMachine) {words : List (List ℕ)} {old : M} {was is : Streams} → ¬ AreOfAForm words
    → Tells (told (codes "wrong words")) was.errors is.errors → is.input ≡ was.input → RanOn seen words 2 old old was is
ran_wrong seen wrong tells same = record {
  ending = WrongWords;
  status_is = refl;
  ran = (wrong, tells);
  maildirs = record {
    delivers = λ spared h into files texts is given fit sound. absurd (wrong (ToConvert into files, is));
    elsewhere = λ word other. record { rests = λ spared h. rest_same; quietly = λ q. refl };
    still_honest = λ spared h none. h;
  };
  true_of = λ spared h into files texts is given fit sound. absurd (wrong (ToConvert into files, is));
  untouched = λ two. (refl, same);
}
