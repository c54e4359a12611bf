-- Messages that are delivered one after the other.
use Rattle.std.proofs.Common.{◌≡◌, ℕ, ◌+◌, Bool, true, false, cond, List, [], ◌∷◌, ◌++◌, length, Option, Some, None, Result}
use Rattle.std.proofs.Common.{Ok, Err, sym, ap, inr, ◌∙◌, refl, arith, append_assoc, length-append, IsErrAnd, append-nil}
use Rattle.maildir_run.proofs.Common.{contains_key, flat_map-append, Engine, Target, Named, target, targets, targets-push, RunFault, OutOfMemory, fault_of}
use Rattle.maildir_run.proofs.Common.{message_at, Seen, Performed, DeliversMessages, messages_after, delivery_of, deliveries_of}
use Rattle.maildir_run.proofs.Tasks.Tasks.{ran_none, ran_nothing, ran_then, ran_before}

pub last_is : (ts : List Target) {a b : Target} → ts ++ a ∷ [] ≡ ts ++ b ∷ [] → a ≡ b
last_is [] e = cc
last_is (t ∷ ts) {a} {b} e = let inner : ts ++ a ∷ [] ≡ ts ++ b ∷ [] = cc in last_is ts inner

-- ---- messages that follow one another
messages_after-append : (before xs ys : List (List ℕ)) → messages_after before (xs ++ ys) ≡ messages_after before xs ++ messages_after (before ++ xs) ys
messages_after-append before [] ys = grind (arith, append-nil)
messages_after-append before (x ∷ xs) ys =
    let m = message_at (target before x) x in
    ap (λ ms. m ∷ ms)
    (messages_after-append (before ++ x ∷ []) xs ys ∙ ap (λ b. messages_after (before ++ x ∷ []) xs ++ messages_after b ys) (append_assoc before (x ∷ []) xs))

parts : (is_there : List ℕ → Bool) (before xs ys : List (List ℕ)) → deliveries_of is_there (messages_after before (xs ++ ys))
    ≡ deliveries_of is_there (messages_after before xs) ++ deliveries_of is_there (messages_after (before ++ xs) ys)
parts is_there before xs ys = grind (arith, messages_after-append, flat_map-append)

-- none
pub delivers_none : {before : List (List ℕ)} {s : Seen} {run : Engine} → Named before run.namer → DeliversMessages before [] s s run run None
delivers_none {before} named = record {
  ran = ran_none;
  there = refl;
  swept = refl;
  named = λ e. rw (append-nil before) named;
  placed_are = λ e. omega arith;
}

-- memory was refused before the first
pub delivers_refused : {A : Type 0} (answer : Result A RunFault) {before more : List (List ℕ)} {s : Seen} {run run' : Engine}
    → run'.there ≡ run.there → run'.swept ≡ run.swept → run'.calls.made ≡ run.calls.made → IsErrAnd answer (λ e. e ≡ OutOfMemory)
    → DeliversMessages before more s s run run' (fault_of answer)
delivers_refused (Ok x) there swept made is = absurd is
delivers_refused (Err e) there swept made is = record {
  ran = rw made (ran_nothing (inr (inr (inr is))));
  there = there;
  swept = swept;
  named = λ e. cc;
  placed_are = λ e. cc;
}

-- some, and more
pub delivers_then : {before xs ys : List (List ℕ)} {a b c : Seen} {run mid run' : Engine} {fault : Option RunFault}
    → DeliversMessages before xs a b run mid None → DeliversMessages (before ++ xs) ys b c mid run' fault
    → DeliversMessages before (xs ++ ys) a c run run' fault
delivers_then {before} {xs} {ys} {run} {mid} {fault} first then =
    let all = parts (contains_key run.there) before xs ys in
    record {
      ran = rw all (ran_then first.ran (rw first.there at then.ran));
      there = then.there ∙ first.there;
      swept = then.swept ∙ first.swept;
      named = grind (arith, append_assoc);
      placed_are = λ e. omega (
        arith,
        first.placed_are refl,
        rw first.there at (then.placed_are e),
        ap length all,
        length-append (deliveries_of (contains_key run.there) (messages_after before xs))
            (deliveries_of (contains_key run.there) (messages_after (before ++ xs) ys)),
      );
    }

-- refused before the others
pub delivers_before : {A : Type 0} {fault : RunFault} (answer : Result A RunFault) {before xs : List (List ℕ)} (ys : List (List ℕ)) {a b : Seen}
    {run run' : Engine} → IsErrAnd answer (λ e. e ≡ fault) → DeliversMessages before xs a b run run' (Some fault)
    → DeliversMessages before (xs ++ ys) a b run run' (fault_of answer)
delivers_before (Ok x) ys is h = absurd is
delivers_before (Err e) {before} {xs} ys {run = run} is h = record {
  ran = rw (parts (contains_key run.there) before xs ys) (rw is (ran_before _ h.ran));
  there = h.there;
  swept = h.swept;
  named = λ e. cc;
  placed_are = λ e. cc;
}

-- ---- one message, whose target is this
module _ (before : List (List ℕ)) (body : List ℕ) (t : Target) (next : targets (before ++ body ∷ []) ≡ targets before ++ t ∷ []) where
  target_is_next : target before body ≡ t
  target_is_next = last_is _ (sym (targets-push before body) ∙ next)

  one_delivery : (is_there : List ℕ → Bool) (shown : Bool) → is_there t.base ≡ shown
      → deliveries_of is_there (messages_after before (body ∷ [])) ≡ cond shown [] (delivery_of t body)
  one_delivery is_there shown is = grind (arith, target_is_next)

  pub delivers_one : {a b : Seen} (run run' : Engine) {fault : Option RunFault} → contains_key run.there t.base ≡ false
      → run'.there ≡ run.there → run'.swept ≡ run.swept → Performed (delivery_of t body) a b run.calls.made run'.calls.made fault
      → Named (before ++ body ∷ []) run'.namer → (fault ≡ None → run'.placed ≡ run.placed + 1) → DeliversMessages before (body ∷ []) a b run run' fault
  delivers_one run run' off there swept ran named more = record {
    ran = rw (one_delivery (contains_key run.there) false off) ran;
    there = there;
    swept = swept;
    named = λ e. named;
    placed_are = λ e. omega (arith, more e, ap length (one_delivery (contains_key run.there) false off));
  }

  pub delivers_nothing : (a : Seen) (run run' : Engine) → contains_key run.there t.base ≡ true → run'.there ≡ run.there → run'.swept ≡ run.swept
      → run'.calls.made ≡ run.calls.made → run'.placed ≡ run.placed → Named (before ++ body ∷ []) run'.namer
      → DeliversMessages before (body ∷ []) a a run run' None
  delivers_nothing a run run' on there swept made placed named = record {
    ran = rw (one_delivery (contains_key run.there) true on, made) ran_none;
    there = there;
    swept = swept;
    named = λ e. named;
    placed_are = λ e. omega (arith, placed, ap length (one_delivery (contains_key run.there) true on));
  }
