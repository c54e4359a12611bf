-- How far a run has come, and what that says at its exits.
use Rattle.std.proofs.Common.{◌≡◌, ℕ, ◌<◌, ◌≤◌, List, [], ◌∷◌, ◌++◌, All, IsPermutation, IsFalse, length}
use Rattle.std.proofs.Common.{get_or, refl, sym, ◌∙◌, inl, inr, ◌⊎◌, arith, AllPairs, IsTrue, ap, length-append}
use Rattle.maildir_run.proofs.Common.{cases_Bool, cases_lt, All-push, All-from_get_or, get_or_append_left, list_any-append}
use Rattle.maildir_run.proofs.Common.{list_any_none, IsPermutation-sym, IsPermutation-trans, Files, is_name, homes, Message}
use Rattle.maildir_run.proofs.Common.{IsMissing, IsHome, IsSoundAt, HasHome, is_any, AreNamed, AreDistinct, is_base_of, Sound, KeepsHomes}
use Rattle.maildir_run.proofs.Common.{DeliversMessage, Progress, get_or-append_seam, eq_by_cmp_equiv, All-weaker}
use Rattle.maildir_run.proofs.Names.Maps.{is_name-true, total}
use Rattle.maildir_run.proofs.Call.Moves.{homes_none, homes_one, permutation_of_none}
use Rattle.maildir_run.proofs.Call.Homes.{spared_named}
use Rattle.maildir_run.proofs.Common.{Spared, is_spared, AllSpared, IsSpared, and_parts, IsPermutation-refl, base}

-- a call that leaves the homes
pub progress_on : {spared : Spared} {done : List Message} {old mid now : Files} → AreNamed done → KeepsHomes spared mid now → Progress spared done old mid
    → Progress spared done old now
progress_on {spared} {mid = mid} {now} named leaves p = record {
  homes_are = λ k d h sp. let kept = leaves.kept _ (spared_named spared _ sp (named k d h)) in homes_one _ _ mid now kept (p.homes_are k d h sp);
  kept = grind (arith, IsPermutation-trans);
}

not_before : (done : List Message) (m : Message) (base : List ℕ) → IsFalse (is_base_of (done ++ m ∷ []) base)
    → IsFalse (is_base_of done base) × IsFalse (is_name m.target.base base)
not_before done m base off = grind (arith, list_any-append)

-- one more message that is there
pub progress_home : {spared : Spared} {done : List Message} (m : Message) {old now : Files} → (IsSpared spared m → IsHome now m) → Progress spared done old now
    → Progress spared (done ++ m ∷ []) old now
progress_home {spared} {done} m {now = now} home p = record {
  homes_are = All-push (λ n. IsSpared spared n → IsHome now n) done m p.homes_are home;
  kept = grind (arith, not_before);
}

-- the messages so far keep their homes as another is delivered
delivers_done : {spared : Spared} (done : List Message) {m : Message} {mid now : Files} → AreNamed done
    → All (λ n. IsFalse (is_name m.target.base n.target.base)) done → DeliversMessage spared m mid now
    → AllSpared spared (IsHome mid) done → AllSpared spared (IsHome now) done
delivers_done {spared} done {mid = mid} {now} named apart delivers all = λ k d h sp.
    homes_one _ _ mid now (delivers.others _ (spared_named spared _ sp (named k d h)) (apart k d h)) (all k d h sp)

pub progress_delivered : {spared : Spared} {done : List Message} {m : Message} {old mid now : Files} → AreNamed done
    → All (λ n. IsFalse (is_name m.target.base n.target.base)) done → DeliversMessage spared m mid now
    → (IsSpared spared m → IsHome now m) → Progress spared done old mid → Progress spared (done ++ m ∷ []) old now
progress_delivered {spared} {done} {m} {mid = mid} {now} named apart delivers home p = record {
  homes_are = All-push (λ n. IsSpared spared n → IsHome now n) done m (delivers_done done named apart delivers p.homes_are) home;
  kept = grind (arith, not_before, IsPermutation-trans);
}

-- ---- whether there is a home
pub any_kept : (xs ys : List (List ℕ)) → IsPermutation xs ys → is_any xs ≡ is_any ys
any_kept [] ys h = rw (permutation_of_none h) refl
any_kept (x ∷ xs) [] h = let e = permutation_of_none (IsPermutation-sym _ _ h) in cc
any_kept (x ∷ xs) (y ∷ ys) h = refl

pub home_there : (m : Message) (s : Files) → IsHome s m → HasHome s m
home_there m s h = rw h refl

missing_there : (m : Message) (s : Files) → IsMissing s m → HasHome s m → ⊥
missing_there m s h there = grind arith

-- ---- at an exit
-- what a run keeps, whatever it answers
pub record KeptSoFar (spared : Spared) (ms : List Message) (old now : Files) : Type 0 where
  pub sound : Sound spared ms old now
  pub still : AllSpared spared (λ m. HasHome old m → HasHome now m) ms
  pub in_order : AllPairs (λ m n. IsSpared spared m → IsSpared spared n → IsMissing old n → HasHome now n → HasHome now m) ms

at_done : (P : Message → Type 0) (done rest : List Message) {k : ℕ} (d : Message) → k < length done → P (get_or done k d) → P (get_or (done ++ rest) k d)
at_done P done rest {k} d lt h = grind (arith, get_or_append_left)

module _ {spared : Spared} (done rest : List Message) (old now : Files) (named : AreNamed (done ++ rest))
    (distinct : AreDistinct (done ++ rest)) (sound : AllSpared spared (IsSoundAt old) (done ++ rest)) (p : Progress spared done old now) where
  module _ (k : ℕ) (d : Message) (ge : length done ≤ k) (h : k < length (done ++ rest)) where
    base_apart : IsFalse (is_base_of done (get_or (done ++ rest) k d).target.base)
    base_apart =
        list_any_none _ done (All-from_get_or (λ m. IsFalse (is_name m.target.base (get_or (done ++ rest) k d).target.base)) done d (λ i lt.
        rw (get_or_append_left done rest d i lt) at (distinct i k d (omega arith) h)))

    kept_at : IsSpared spared (get_or (done ++ rest) k d)
        → IsPermutation (homes old (get_or (done ++ rest) k d).target.base) (homes now (get_or (done ++ rest) k d).target.base)
    kept_at sp = p.kept _ (spared_named spared _ sp (named k d h)) (base_apart)

  sound_at : (m : Message) → IsPermutation (homes old m.target.base) (homes now m.target.base) → IsSoundAt old m → IsSoundAt now m
  sound_at m kept h = grind (arith, homes_none, homes_one)

  sound_now : (k : ℕ) (d : Message) → k < length (done ++ rest) → IsSpared spared (get_or (done ++ rest) k d) → IsSoundAt now (get_or (done ++ rest) k d)
  sound_now k d h sp =
      elim (cases_lt k (length done)) [
        | inl lt ↦ at_done (λ m. IsSpared spared m → IsSoundAt now m) done rest d lt (λ own. inr (p.homes_are k d lt own)) sp
        | inr ge ↦ sound_at (get_or (done ++ rest) k d) (kept_at k d ge h sp) (sound k d h sp)
      ]

  still_now : (k : ℕ) (d : Message) → k < length (done ++ rest) → IsSpared spared (get_or (done ++ rest) k d)
      → HasHome old (get_or (done ++ rest) k d) → HasHome now (get_or (done ++ rest) k d)
  still_now k d h sp there =
      elim (cases_lt k (length done)) [
        | inl lt ↦ at_done (λ m. IsSpared spared m → HasHome now m) done rest d lt (λ own. home_there (get_or done k d) now (p.homes_are k d lt own)) sp
        | inr ge ↦ sym (any_kept _ _ (kept_at k d ge h sp)) ∙ there
      ]

  in_order_now : (i j : ℕ) (d : Message) → i < j → j < length (done ++ rest) → IsSpared spared (get_or (done ++ rest) i d)
      → IsSpared spared (get_or (done ++ rest) j d) → IsMissing old (get_or (done ++ rest) j d)
      → HasHome now (get_or (done ++ rest) j d) → HasHome now (get_or (done ++ rest) i d)
  in_order_now i j d lt h sp_i sp_j missing there =
      elim (cases_lt j (length done)) [
        | inl lt_done ↦ let before : i < length done =
            omega arith in
            at_done (λ m. IsSpared spared m → HasHome now m) done rest d before (λ own. home_there (get_or done i d) now (p.homes_are i d before own)) sp_i
        | inr ge ↦
            absurd (missing_there (get_or (done ++ rest) j d) now (homes_none (get_or (done ++ rest) j d).target.base old now (kept_at j d ge h sp_j) missing)
            there)
      ]

  other_now : (base : List ℕ) → IsFalse (is_base_of (done ++ rest) base) → IsFalse (is_base_of done base)
  other_now base off = grind (arith, list_any-append)

  pub progress_stands : KeptSoFar spared (done ++ rest) old now
  progress_stands = record {
    sound = grind (arith, sound_now, other_now);
    still = still_now;
    in_order = in_order_now;
  }

-- where a message that was missing is missing yet, nothing happened
nothing_delivered : {spared : Spared} {m : Message} {mid now : Files} → (IsSpared spared m → IsMissing mid m) → (IsSpared spared m → IsMissing now m)
    → DeliversMessage spared m mid now → KeepsHomes spared mid now
nothing_delivered {spared} {m} {mid} {now} was is delivers = record {
  kept = λ b named.
      elim (cases_Bool (is_name m.target.base b)) [
        | inr off ↦ delivers.others b named off
        | inl on ↦
            let same = is_name-true _ _ on in
            let sp : IsSpared spared m = ap spared.bases same ∙ (and_parts _ _ named).0 in
            rw (← same, was sp, is sp) (IsPermutation-refl [])
      ];
}

-- a message that was missing was delivered, or is missing yet
pub progress_or_more : {spared : Spared} {done : List Message} {m : Message} {old mid now : Files} → AreNamed done
    → All (λ n. IsFalse (is_name m.target.base n.target.base)) done
    → (IsSpared spared m → IsMissing mid m) → DeliversMessage spared m mid now → Progress spared done old mid
    → Progress spared done old now ⊎ Progress spared (done ++ m ∷ []) old now
progress_or_more {spared} {done} {m} {old} {mid} {now} named apart was delivers p =
    elim (cases_Bool (spared.bases m.target.base)) [
      | inr off ↦ inr (progress_delivered named apart delivers (λ sp. cc) p)
      | inl sp ↦
          elim (delivers.own sp) [
            | inl is ↦ inl (progress_on named (nothing_delivered was (λ _. is) delivers) p)
            | inr home ↦ inr (progress_delivered named apart delivers (λ _. home) p)
          ]
    ]

-- ---- messages that were done
pub apart_prefix : (done : List Message) (m : Message) (later : List Message)
    → AreDistinct (done ++ m ∷ later) → All (λ n. IsFalse (is_name m.target.base n.target.base)) done
apart_prefix done m later distinct =
    All-from_get_or (λ n. IsFalse (is_name m.target.base n.target.base)) done m (λ i lt.
    let h : IsFalse (is_name (get_or (done ++ m ∷ later) i m).target.base (get_or (done ++ m ∷ later) (length done) m).target.base) =
    distinct i (length done) m lt (omega (arith, length-append done (m ∷ later))) in
    (eq_by_cmp_equiv total).symm m.target.base (get_or done i m).target.base
    ∙ ap (λ x. is_name x.target.base m.target.base) (sym (get_or_append_left done (m ∷ later) m i lt))
    ∙ ap (λ y. is_name (get_or (done ++ m ∷ later) i m).target.base y.target.base) (sym (get_or-append_seam done m later m))
    ∙ h)

not_done : (done : List Message) (m : Message) → All (λ n. IsFalse (is_name m.target.base n.target.base)) done → IsFalse (is_base_of done m.target.base)
not_done done m apart = grind (arith, list_any_none, All-weaker, total)

module _ {spared : Spared} (done : List Message) (m : Message) (old now : Files) (named : IsTrue (is_spared spared m.target.base))
    (apart : All (λ n. IsFalse (is_name m.target.base n.target.base)) done) (p : Progress spared done old now) where
  pub still_missing : IsMissing old m → IsMissing now m
  still_missing h = grind (arith, homes_none, not_done)

  pub still_there : IsHome old m → IsHome now m
  still_there h = grind (arith, homes_one, not_done)
