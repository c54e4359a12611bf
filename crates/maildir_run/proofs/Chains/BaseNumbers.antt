-- Which number the base of each message of a text has.
use Rattle.std.proofs.Common.{◌≡◌, ℕ, zero, suc, ◌+◌, ◌<◌, ◌≤◌, ◌^◌, Bool, true, false, cond, List, [], ◌∷◌, length}
use Rattle.std.proofs.Common.{get_or, take, map, count_by, refl, sym, ap, ◌∙◌, inl, inr, arith, take-take}
use Rattle.maildir_run.proofs.Common.{list_any, cases_Bool, cases_lt, take-map, get_or-map, count_by_more_yes, sum_by-cons}
use Rattle.maildir_run.proofs.Common.{sum_by-take-le, count_by-le-length, Target, numbered, same_digest, targets}
use Rattle.maildir_run.proofs.Common.{length-targets, get_or-targets, Message, with_bodies, messages_of, MessagesOf}
use Rattle.maildir_name.proofs.DistinctBases.{number_after-is, target-base}
use Rattle.maildir_run.proofs.Chains.MessageLemmas.{targets_of, length-messages_of, few_bodies_of_text}

-- whether a message has the digest of this body
abbrev pub has_digest_of : List ℕ → Message → Bool
has_digest_of b m = same_digest b m.body

-- how many messages have it
abbrev pub with_digest : List ℕ → List Message → ℕ
with_digest b ms = count_by (has_digest_of b) ms

-- the number in each message's base counts the messages up to and with it that have its digest
abbrev pub AreNumbered : List Message → Type 0
AreNumbered ms =
    (i : ℕ) (d : Message) → i < length ms → (get_or ms i d).target.base ≡ numbered (get_or ms i d).body (with_digest (get_or ms i d).body (take i ms) + 1)

bodies_are : (ts : List Target) (bodies : List (List ℕ)) → length ts ≡ length bodies → map (λ (m : Message). m.body) (with_bodies ts bodies) ≡ bodies
bodies_are [] [] e = refl
bodies_are [] (b ∷ bodies) e = absurd (omega (arith, e))
bodies_are (t ∷ ts) [] e = absurd (omega (arith, e))
bodies_are (t ∷ ts) (b ∷ bodies) e = ap (λ xs. b ∷ xs) (bodies_are ts bodies (omega (arith, e)))

count-bodies : (p : List ℕ → Bool) (ms : List Message) → count_by p (map (λ (m : Message). m.body) ms) ≡ count_by (λ m. p m.body) ms
count-bodies p [] = refl
count-bodies p (m ∷ ms) =
    sum_by-cons (λ b. cond (p b) 1 0) m.body (map (λ (m : Message). m.body) ms)
    ∙ ap (λ n. cond (p m.body) 1 0 + n) (count-bodies p ms)
    ∙ sym (sum_by-cons (λ (m : Message). cond (p m.body) 1 0) m ms)

messages_numbered : (bodies : List (List ℕ)) → AreNumbered (messages_of bodies)
messages_numbered bodies i d below =
    let ms = messages_of bodies in
    let m = get_or ms i d in
    let body = get_or bodies i [] in
    let prefix = take i bodies in
    let are : map (λ (n : Message). n.body) ms ≡ bodies = bodies_are _ bodies (length-targets bodies) in
    let body_is : body ≡ m.body = grind (arith, get_or-map) in
    let prefix_is : prefix ≡ map (λ (n : Message). n.body) (take i ms) = grind (arith, take-map) in
    let target_is : get_or (targets bodies) i d.target ≡ m.target =
    ap (λ ts. get_or ts i d.target) (sym (targets_of _ bodies (length-targets bodies)))
    ∙ get_or-map (λ (n : Message). n.target) ms i d d.target below in
    ap (λ (t : Target). t.base) (sym target_is ∙ get_or-targets bodies i d.target (omega (arith, below, length-messages_of bodies)))
    ∙ target-base prefix body
    ∙ ap (numbered body) (number_after-is prefix body)
    ∙ ap (λ b. numbered b (count_by (same_digest b) prefix + 1)) body_is
    ∙ ap (λ n. numbered m.body (n + 1)) (ap (count_by (same_digest m.body)) prefix_is ∙ count-bodies (same_digest m.body) (take i ms))

pub text_numbered : (t : List ℕ) {ms : List Message} → MessagesOf t ms → AreNumbered ms
text_numbered t h = grind (arith, messages_numbered)

pub text_few : (t : List ℕ) {ms : List Message} → MessagesOf t ms → length t < 2 ^ 63 → length ms ≤ 2 ^ 63
text_few t h small = grind (arith, few_bodies_of_text, length-messages_of)

-- ---- the elements that pass a test, by their number
-- the element that passes a test after k others
pub record Selected {X : Type 0} (p : X → Bool) (xs : List X) (k : ℕ) : Type 0 where
  pub i : ℕ
  pub below : i < length xs
  pub hit : (d : X) → p (get_or xs i d) ≡ true
  pub before : count_by p (take i xs) ≡ k

module _ {X : Type 0} (p : X → Bool) where
  pub count-cons : (x : X) (xs : List X) (t : Bool) → p x ≡ t → count_by p (x ∷ xs) ≡ cond t 1 0 + count_by p xs
  count-cons x xs t e = sum_by-cons (λ y. cond (p y) 1 0) x xs ∙ ap (λ b. cond b 1 0 + count_by p xs) e

  selected_here : (x : X) (xs : List X) (k : ℕ) → p x ≡ true → ((j : ℕ) → j < count_by p xs → Selected p xs j) → k < count_by p (x ∷ xs) → Selected p (x ∷ xs) k
  selected_here x xs zero on later lt = grind arith
  selected_here x xs (suc k) on later lt =
      let s = later k (omega (arith, lt, count-cons x xs true on)) in
      record { i = suc s.i; below = omega (arith, s.below); hit = s.hit; before = omega (arith, s.before, count-cons x (take s.i xs) true on) }

  pub select : (xs : List X) (k : ℕ) → k < count_by p xs → Selected p xs k
  select [] k lt = absurd (omega (arith, lt))
  select (x ∷ xs) k lt =
      elim (cases_Bool (p x)) [
        | inl on ↦ selected_here x xs k on (select xs) lt
        | inr off ↦
            let s = select xs k (omega (arith, lt, count-cons x xs false off)) in
            record { i = suc s.i; below = omega (arith, s.below); hit = s.hit; before = omega (arith, s.before, count-cons x (take s.i xs) false off) }
      ]

  pub count-taken : (xs : List X) (i : ℕ) (d : X) → i < length xs → p (get_or xs i d) ≡ true → count_by p (take i xs) < count_by p xs
  count-taken xs i d below on =
      let more = count_by_more_yes p xs i d below on in
      let le = sum_by-take-le (λ x. cond (p x) 1 0) xs (i + 1) in
      omega (arith, more, le)

  pub fewer_before : (xs : List X) (i j : ℕ) → count_by p (take i xs) < count_by p (take j xs) → i < j
  fewer_before xs i j lt =
      elim (cases_lt i j) [
        | inl before ↦ before
        | inr ge ↦
            let within : take j (take i xs) ≡ take j xs = take-take j i xs ge in
            let le : count_by p (take j xs) ≤ count_by p (take i xs) = grind (arith, sum_by-take-le) in
            absurd (omega (arith, lt, le))
      ]

pub few_with_digest : (b : List ℕ) (ms : List Message) (i : ℕ) → with_digest b (take i ms) ≤ length ms
few_with_digest b ms i = grind (arith, sum_by-take-le, count_by-le-length)

pub any_at : {X : Type 0} (p : X → Bool) (xs : List X) (d : X) → list_any p xs ≡ true → (i : ℕ) × (i < length xs) × (p (get_or xs i d) ≡ true)
any_at p [] d e = cc
any_at p (x ∷ xs) d e =
    elim (cases_Bool (p x)) [
      | inl on ↦ (0, omega arith, on)
      | inr off ↦ let a = any_at p xs d (rw off at e) in (suc a.0, omega (arith, a.1), a.2)
    ]

-- ---- the first number from which a test fails
-- up to j the test passes, and j fails it, if it is not the last
pub record Gap (p : ℕ → Bool) (low high : ℕ) : Type 0 where
  pub j : ℕ
  pub from : low ≤ j
  pub to : j ≤ high
  pub full : (k : ℕ) → low ≤ k → k < j → p k ≡ true
  pub ends : j < high → p j ≡ false

pub gap : (p : ℕ → Bool) (n low high : ℕ) → high ≡ low + n → Gap p low high
gap p zero low high e = record {
  j = low;
  from = omega arith;
  to = omega (arith, e);
  full = λ k ge lt. absurd (omega (arith, ge, lt));
  ends = λ lt. absurd (omega (arith, lt, e));
}
gap p (suc n) low high e =
    elim (cases_Bool (p low)) as (λ _. Gap p low high) [
      | inl on ↦
          let g = gap p n (low + 1) high (omega (arith, e)) in
          grind arith
      | inr off ↦ grind arith
    ]
