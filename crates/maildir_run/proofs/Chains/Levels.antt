-- How often a body is there, before a run over one of several texts and after it.
use Rattle.std.proofs.Common.{◌≡◌, ℕ, Bool, ◌||◌, ◌+◌, ◌-◌, ◌<◌, ◌≤◌, ◌^◌, true, false, List, [], ◌∷◌, length, get_or, take, not}
use Rattle.std.proofs.Common.{IsTrue, Result, refl, sym, ap, ◌∙◌, inl, inr, arith, OnOk}
use Rattle.maildir_run.proofs.Common.{take-length, cases_Bool, cases_lt, is_converter_base, digest_text, numbered, RunFault, Report}
use Rattle.maildir_run.proofs.Common.{Files, homes, is_name, Message, AreNamed, IsSoundAt, IsHome, has_home, is_base_of, KeepsMessages}
use Rattle.maildir_name.proofs.Digests.{same_digest-refl, same_digest-text}
use Rattle.maildir_name.proofs.BaseLemmas.{numbered-converter, numbered-digits, same-number}
use Rattle.maildir_run.specs.Several.{IsThere}
use Rattle.maildir_run.proofs.Names.Maps.{is_name-true}
use Rattle.maildir_run.proofs.Call.Moves.{homes_none, homes_one}
use Rattle.maildir_run.proofs.Call.Homes.{none_of, spared_named}
use Rattle.maildir_run.proofs.Chains.BaseNumbers.{has_digest_of, with_digest, AreNumbered, select, count-taken, fewer_before, few_with_digest, any_at, Gap, gap}
use Rattle.maildir_run.proofs.Common.{Spared, is_spared, AllSpared, IsSpared, and_parts, or-false, is_any}

-- a body is there so often
pub record Level (spared : Spared) (b : List ℕ) (s : Files) : Type 0 where
  pub n : ℕ
  pub there : IsThere spared n b s
  pub small : n ≤ 2 ^ 63

-- it is there so often after a run over a text in which it stands c times
pub record Rise (spared : Spared) (b : List ℕ) (c n : ℕ) (answer : Result Report RunFault) (s : Files) : Type 0 where
  pub now : ℕ
  pub there : IsThere spared now b s
  pub from : n ≤ now
  pub to : now ≤ n + (c - n)
  pub done : OnOk answer (c ≤ now)

-- a number is that of no other
other_number : (b : List ℕ) {x : List ℕ} {j k : ℕ} → j < k → k ≤ 2 ^ 63 → x ≡ numbered b (k + 1) → numbered b (j + 1) ≡ x → ⊥
other_number b {j} {k} lt few is e = grind (arith, same-number)

-- a message whose number is among those that are there is at home
pub home_level : {spared : Spared} (ms : List Message) {s : Files} → AreNumbered ms → {i : ℕ} (d : Message) → i < length ms
    → (level : Level spared (get_or ms i d).body s) → with_digest (get_or ms i d).body (take i ms) < level.n
    → IsSpared spared (get_or ms i d) → IsHome s (get_or ms i d)
home_level ms {s} nums {i} d below level lt sp =
    ap (homes s) (nums i d below) ∙ level.there.up_to (with_digest (get_or ms i d).body (take i ms)) lt (rw (nums i d below) at sp)

-- a message whose body is there so often is sound
pub sound_level : {spared : Spared} (ms : List Message) {s : Files} → AreNumbered ms → length ms ≤ 2 ^ 63 → AreNamed ms
    → {i : ℕ} (d : Message) → i < length ms → Level spared (get_or ms i d).body s
    → IsSpared spared (get_or ms i d) → IsSoundAt s (get_or ms i d)
sound_level {spared} ms {s} nums few named {i} d below level sp =
    let m = get_or ms i d in
    let k = with_digest m.body (take i ms) in
    let is : m.target.base ≡ numbered m.body (k + 1) = nums i d below in
    let most : k ≤ length ms = few_with_digest m.body ms i in
    elim (cases_lt k level.n) [
      | inl lt ↦ inr (home_level ms nums d below level lt sp)
      | inr ge ↦ inl (level.there.no_other m.target.base (spared_named spared _ sp (named i d below)) (ap (take 64) is ∙ numbered-digits m.body (k + 1))
          (λ j lt. other_number m.body (omega (arith, lt, ge)) (omega (arith, most, few)) is))
    ]

-- the message of a text with this body and this base, before which the body stands k times
pub record AtNumber (d : Message) (ms : List Message) (b x : List ℕ) (k : ℕ) : Type 0 where
  pub i : ℕ
  pub below : i < length ms
  pub before : with_digest b (take i ms) ≡ k
  pub body_is : (get_or ms i d).body ≡ b
  pub base_is : (get_or ms i d).target.base ≡ x

-- a base is that of a message with this body
pub record OfBody (d : Message) (ms : List Message) (b x : List ℕ) : Type 0 where
  pub k : ℕ
  pub below : k < with_digest b ms
  pub is : x ≡ numbered b (k + 1)
  pub at : AtNumber d ms b x k

-- no other body of the text has the digest of this
abbrev pub IsOwnDigest : Message → List Message → List ℕ → Type 0
IsOwnDigest d ms b = (i : ℕ) → i < length ms → digest_text (get_or ms i d).body ≡ digest_text b → (get_or ms i d).body ≡ b

-- ---- the messages of one text with one body
module _ (d : Message) (ms : List Message) (b : List ℕ) (nums : AreNumbered ms) (own : IsOwnDigest d ms b) where
  base_at : (i : ℕ) → i < length ms → (get_or ms i d).body ≡ b → (get_or ms i d).target.base ≡ numbered b (with_digest b (take i ms) + 1)
  base_at i below e = grind arith

  pub at_number : (k : ℕ) → k < with_digest b ms → AtNumber d ms b (numbered b (k + 1)) k
  at_number k lt =
      let s = select (has_digest_of b) ms k lt in
      let body_is = own s.i s.below (sym (same_digest-text b _ (s.hit d))) in
      grind arith

  pub of_base : (x : List ℕ) → take 64 x ≡ digest_text b → is_base_of ms x ≡ true → OfBody d ms b x
  of_base x digits on =
      let a = any_at (λ (m : Message). is_name m.target.base x) ms d on in
      let m = get_or ms a.0 d in
      let same : m.target.base ≡ x = is_name-true _ x a.2 in
      let text : digest_text m.body ≡ digest_text b = grind (arith, numbered-digits) in
      let body_is = own a.0 a.1 text in
      let hit : has_digest_of b m ≡ true = rw body_is (same_digest-refl b) in
      record {
        k = with_digest b (take a.0 ms);
        below = count-taken (has_digest_of b) ms a.0 d a.1 hit;
        is = sym same ∙ base_at a.0 a.1 body_is;
        at = grind arith;
      }

-- ---- one run over the text
module _ {spared : Spared} (d : Message) (ms : List Message) (b : List ℕ) (nums : AreNumbered ms) (own : IsOwnDigest d ms b) (few : length ms ≤ 2 ^ 63)
    (old new : Files) (answer : Result Report RunFault) (keeps : KeepsMessages spared ms old answer new) (n : ℕ)
    (there : IsThere spared n b old) (small : n ≤ 2 ^ 63)
  where
    most : with_digest b ms ≤ length ms
    most = rw (take-length ms) at (few_with_digest b ms (length ms))

    named_at : (k : ℕ) → k ≤ 2 ^ 63 → IsTrue (is_converter_base (numbered b (k + 1)))
    named_at k le = grind (arith, numbered-converter)

    spared_at : {x : List ℕ} {k : ℕ} (a : AtNumber d ms b x k) → IsTrue (spared.bases x) → IsSpared spared (get_or ms a.i d)
    spared_at a sp = ap spared.bases a.base_is ∙ sp

    at_home : (x : List ℕ) (k : ℕ) (a : AtNumber d ms b x k) → IsTrue (spared.bases x) → has_home new x ≡ true → homes new x ≡ b ∷ []
    at_home x k a sp on = let sound = keeps.sound.own a.i d a.below (spared_at a sp) in grind (arith, has_home new, homes new)

    -- what was there is there
    stays : (k : ℕ) → k < n → IsTrue (spared.bases (numbered b (k + 1))) → homes new (numbered b (k + 1)) ≡ b ∷ []
    stays k lt sp =
        let x = numbered b (k + 1) in
        let was : homes old x ≡ b ∷ [] = there.up_to k lt sp in
        elim (cases_Bool (is_base_of ms x)) [
          | inl on ↦
              let o = of_base d ms b nums own x (numbered-digits b (k + 1)) on in
              let had : has_home old (get_or ms o.at.i d).target.base ≡ true = grind arith in
              let has = keeps.still o.at.i d o.at.below (spared_at o.at sp) had in
              at_home x o.k o.at sp (ap (has_home new) (sym o.at.base_is) ∙ has)
          | inr off ↦ homes_one x b old new (keeps.sound.others x (spared_named spared x sp (named_at k (omega (arith, lt, small)))) off) was
        ]

    -- a base that is spared has a home
    abbrev has_if_spared : List ℕ → Bool
    has_if_spared x = has_home new x || not (spared.bases x)

    has_it : (x : List ℕ) → has_if_spared x ≡ true → IsTrue (spared.bases x) → has_home new x ≡ true
    has_it x on sp = rw (sp, or-false) at on

    lacks_it : (x : List ℕ) → has_if_spared x ≡ false → (has_home new x ≡ false) × IsTrue (spared.bases x)
    lacks_it x off = grind arith

    risen : Gap (λ k. has_if_spared (numbered b (k + 1))) n (n + (with_digest b ms - n))
    risen = gap (λ k. has_if_spared (numbered b (k + 1))) _ n _ refl

    up_to_now : (k : ℕ) → k < risen.j → IsTrue (spared.bases (numbered b (k + 1))) → homes new (numbered b (k + 1)) ≡ b ∷ []
    up_to_now k lt sp =
        let x = numbered b (k + 1) in
        elim (cases_lt k n) [
          | inl early ↦ stays k early sp
          | inr ge ↦ at_home x k (at_number d ms b nums own k (omega (arith, lt, ge, risen.to))) sp (has_it x (risen.full k ge lt) sp)
        ]

    -- a message without a home has none after it with one that came
    none_later : (x : List ℕ) (o : OfBody d ms b x) → IsTrue (is_spared spared x) → take 64 x ≡ digest_text b → risen.j ≤ o.k → homes new x ≡ []
    none_later x o named digits ge =
        let sp : IsTrue (spared.bases x) = (and_parts _ _ named).0 in
        let at_end = lacks_it (numbered b (risen.j + 1)) (risen.ends (omega (arith, ge, o.below, risen.from))) in
        let none = at_end.0 in
        elim (cases_lt risen.j o.k) [
          | inr le ↦ none_of _ (ap (has_home new) (o.is ∙ ap (λ k. numbered b (k + 1)) (omega (arith, le, ge))) ∙ none)
          | inl lt ↦
              let a = at_number d ms b nums own risen.j (omega (arith, lt, o.below)) in
              let before : a.i < o.at.i = grind (arith, fewer_before) in
              let missing : homes old (get_or ms o.at.i d).target.base ≡ [] =
              ap (homes old) o.at.base_is ∙ there.no_other x named digits
              (λ k below. other_number b (omega (arith, below, risen.from, ge)) (omega (arith, o.below, most, few)) o.is) in
              elim (cases_Bool (has_home new x)) [
                | inr off ↦ none_of _ off
                | inl on ↦
                    let came : has_home new (get_or ms a.i d).target.base ≡ true =
                    keeps.in_order a.i o.at.i d before o.at.below (spared_at a at_end.1) (spared_at o.at sp) missing (ap (has_home new) o.at.base_is ∙ on) in
                    let came_at : has_home new (numbered b (risen.j + 1)) ≡ true = ap (has_home new) (sym a.base_is) ∙ came in
                    cc
              ]
        ]

    no_other_now : (x : List ℕ) → IsTrue (is_spared spared x) → take 64 x ≡ digest_text b
        → ((k : ℕ) → k < risen.j → numbered b (k + 1) ≡ x → ⊥) → homes new x ≡ []
    no_other_now x named digits apart =
        elim (cases_Bool (is_base_of ms x)) [
          | inr off ↦
              homes_none x old new (keeps.sound.others x named off) (there.no_other x named digits (λ k lt. apart k (omega (arith, lt, risen.from))))
          | inl on ↦
              let o = of_base d ms b nums own x digits on in
              elim (cases_lt o.k risen.j) [
                | inl lt ↦ absurd (apart o.k lt (sym o.is))
                | inr ge ↦ none_later x o named digits ge
              ]
        ]

    all_home : AllSpared spared (IsHome new) ms → with_digest b ms ≤ risen.j
    all_home all =
        elim (cases_lt risen.j (with_digest b ms)) [
          | inr ge ↦ ge
          | inl lt ↦
              let a = at_number d ms b nums own risen.j lt in
              let off = lacks_it (numbered b (risen.j + 1)) (risen.ends (omega (arith, lt, risen.from))) in
              let home = all a.i d a.below (spared_at a off.1) in
              let on : has_home new (numbered b (risen.j + 1)) ≡ true = ap (has_home new) (sym a.base_is) ∙ ap is_any home in
              let none = off.0 in
              cc
        ]

    done_now : (r : Result Report RunFault) → r ≡ answer → OnOk r (with_digest b ms ≤ risen.j)
    done_now r e = grind (arith, all_home)

    pub rise : Rise spared b (with_digest b ms) n answer new
    rise = record {
      now = risen.j;
      there = record { up_to = up_to_now; no_other = no_other_now };
      from = risen.from;
      to = risen.to;
      done = done_now answer refl;
    }
