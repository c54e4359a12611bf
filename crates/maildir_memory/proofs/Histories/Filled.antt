-- Files that have each of some messages at its target, and nothing else.
use Rattle.std.proofs.Common.{◌≡◌, ℕ, zero, suc, Bool, true, false, List, [], ◌∷◌, ◌++◌, ◌⊎◌, get_or, All, IsFalse, IsTrue, IsPermutation}
use Rattle.std.proofs.Common.{refl, sym, ap, subst, ◌∙◌, inl, inr, arith}
use Rattle.maildir_name.specs.declared.target.Place.{Place}
use Rattle.maildir_name.specs.declared.target.Place.TheVariants.{New, Cur}
use Rattle.maildir_run.proofs.Common.{All-cons, All-head, All-nil, All-tail, IsPermutation-append_left, IsPermutation-append_right}
use Rattle.maildir_run.proofs.Common.{IsPermutation-middle, IsPermutation-sym, IsPermutation-trans, and_parts, cases_Bool}
use Rattle.maildir_run.proofs.Common.{added, base, get, get-empty, insert, is_converter_base, is_name, name_cmp, FileMap}
use Rattle.maildir_run.proofs.Common.{AreDistinct, Files, IsHome, IsTarget, Message, Spared, has_base, held_under, homes}
use Rattle.maildir_run.proofs.Call.Homes.{held-insert_new, held-insert_other}
use Rattle.maildir_run.proofs.Call.Moves.{both_none, held_none, none_held, permutation_of_one}
use Rattle.maildir_run.proofs.Names.Maps.{alike, get_inserted, is_name-refl, is_name-true}
use Rattle.maildir_run.specs.Delivery.{IsSoundAt, IsSwept}
use Rattle.maildir_run.specs.Files.{KeepsSpared, is_spared_name}
use Rattle.maildir_run.specs.Files.{no_files}
use Rattle.maildir_memory.specs.Histories.{all_but}

-- a message is put at its target
abbrev pub put : Message → Files → Files
put m s = added s m.target.place m.target.name m.body

abbrev pub filled : List Message → Files
filled [] = no_files
filled (m ∷ ms) = put m (filled ms)

name_sym : (a b : List ℕ) → is_name a b ≡ false → is_name b a ≡ false
name_sym a b off = elim (cases_Bool (is_name b a)) as (λ _. is_name b a ≡ false) [
  | inl on ↦ let same : b ≡ a = is_name-true b a on in
      let is : is_name a b ≡ true = subst (λ c. is_name a c ≡ true) (sym same) (is_name-refl a) in cc
  | inr is ↦ is
]

none_in_none : (b : List ℕ) → held_under b (no_files.new) ≡ []
none_in_none b = held_none b (no_files.new) (λ q on. get-empty {X = List ℕ} name_cmp q)

pub no_homes : (b : List ℕ) → homes no_files b ≡ []
no_homes b = ap (λ h. h ++ held_under b no_files.cur) (none_in_none b) ∙ none_in_none b

-- ---- one file
module _ (s : Files) (name body b : List ℕ) where
  home_added : (p : Place) → has_base b name ≡ true → homes s b ≡ [] → homes (added s p name body) b ≡ body ∷ []
  home_added New on none =
      let parts = both_none _ _ none in
      let first : IsPermutation (body ∷ homes s b) (homes (added s New name body) b) =
      IsPermutation-append_left (held_under b s.cur) _ _ (held-insert_new b s.new name body on (none_held b s.new parts.0 name on)) in
      permutation_of_one _ (rw none at first)
  home_added Cur on none =
      let parts = both_none _ _ none in
      let first : IsPermutation (body ∷ homes s b) (homes (added s Cur name body) b) =
      IsPermutation-trans _ _ _
      (IsPermutation-sym _ _ (IsPermutation-middle (held_under b s.new) body (held_under b s.cur)))
      (IsPermutation-append_right (held_under b s.new) _ _ (held-insert_new b s.cur name body on (none_held b s.cur parts.1 name on))) in
      permutation_of_one _ (rw none at first)

  apart_added : (p : Place) → has_base b name ≡ false → homes (added s p name body) b ≡ homes s b
  apart_added New off = ap (λ h. h ++ held_under b s.cur) (held-insert_other b s.new name body off)
  apart_added Cur off = ap (λ h. held_under b s.new ++ h) (held-insert_other b s.cur name body off)

  tmp_added : (p : Place) → (added s p name body).tmp ≡ s.tmp
  tmp_added New = refl
  tmp_added Cur = refl

-- ---- one message
module _ (m : Message) (is : IsTarget m.target) (s : Files) where
  pub put_home : homes s m.target.base ≡ [] → IsHome (put m s) m
  put_home = home_added s m.target.name m.body m.target.base m.target.place is.under

  -- a base isn't that of its name
  pub put_apart : (b : List ℕ) → is_name m.target.base b ≡ false → homes (put m s) b ≡ homes s b
  put_apart b off =
      apart_added s m.target.name m.body b m.target.place
      (name_sym (base m.target.name) b (subst (λ c. is_name c b ≡ false) (is_name-true _ _ is.under) off))

  insert_other : (files : FileMap) (q : List ℕ) → has_base m.target.base q ≡ false → get (insert files m.target.name m.body) q ≡ get files q
  insert_other files q off = let on = is.under in grind (arith, get_inserted, alike (has_base m.target.base) q m.target.name)

  spared_apart : (whole : Bool) (q : List ℕ) → IsTrue (is_spared_name (all_but m whole) q) → has_base m.target.base q ≡ false
  spared_apart whole q known = let parts = and_parts ((all_but m whole).bases (base q)) (is_converter_base (base q)) known in grind arith

  keeps_spared : (whole : Bool) (p : Place) → KeepsSpared (all_but m whole) (added s p m.target.name m.body) s
  keeps_spared whole New = record {
    tmp_alike = λ q known. refl;
    new_alike = λ q known. sym (insert_other s.new q (spared_apart whole q known));
    cur_alike = λ q known. refl;
  }
  keeps_spared whole Cur = record {
    tmp_alike = λ q known. refl;
    new_alike = λ q known. refl;
    cur_alike = λ q known. sym (insert_other s.cur q (spared_apart whole q known));
  }

  pub put_spares : (whole : Bool) → KeepsSpared (all_but m whole) (put m s) s
  put_spares whole = keeps_spared whole m.target.place

-- ---- all of them
filled_none : (ms : List Message) → All (λ m. IsTarget m.target) ms → (b : List ℕ) → All (λ m. IsFalse (is_name m.target.base b)) ms
    → homes (filled ms) b ≡ []
filled_none [] targets b apart = no_homes b
filled_none (m ∷ ms) targets b apart =
    put_apart m (All-head (λ m. IsTarget m.target) m ms targets) (filled ms) b (All-head (λ m. IsFalse (is_name m.target.base b)) m ms apart)
    ∙ filled_none ms (All-tail (λ m. IsTarget m.target) m ms targets) b (All-tail (λ m. IsFalse (is_name m.target.base b)) m ms apart)

pub first_none : (m : Message) (ms : List Message) → All (λ m. IsTarget m.target) (m ∷ ms) → AreDistinct (m ∷ ms) → homes (filled ms) m.target.base ≡ []
first_none m ms targets distinct =
    filled_none ms (All-tail (λ m. IsTarget m.target) m ms targets) m.target.base
    (λ k d below. name_sym m.target.base (get_or ms k d).target.base (distinct zero (suc k) d (omega arith) (omega (arith, below))))

rest_distinct : (m : Message) (ms : List Message) → AreDistinct (m ∷ ms) → AreDistinct ms
rest_distinct m ms distinct i j d lt below = distinct (suc i) (suc j) d (omega (arith, lt)) (omega (arith, below))

pub filled_home : (ms : List Message) → All (λ m. IsTarget m.target) ms → AreDistinct ms → All (IsHome (filled ms)) ms
filled_home [] targets distinct = All-nil _
filled_home (m ∷ ms) targets distinct =
    let here = All-head (λ m. IsTarget m.target) m ms targets in
    let rest = filled_home ms (All-tail (λ m. IsTarget m.target) m ms targets) (rest_distinct m ms distinct) in
    All-cons (IsHome (filled (m ∷ ms))) m ms (put_home m here (filled ms) (first_none m ms targets distinct))
    (λ k d below.
    put_apart m here (filled ms) (get_or ms k d).target.base (distinct zero (suc k) d (omega arith) (omega (arith, below))) ∙ rest k d below)

-- a message of any text is missing, or at home where those that have its base have its body
pub filled_sound : (ms : List Message) → All (λ m. IsTarget m.target) ms → AreDistinct ms → (o : Message)
    → All (λ m. m.target.base ≡ o.target.base → m.body ≡ o.body) ms → IsSoundAt (filled ms) o
filled_sound [] targets distinct o alike = inl (no_homes o.target.base)
filled_sound (m ∷ ms) targets distinct o alike =
    let here = All-head (λ m. IsTarget m.target) m ms targets in
    elim (cases_Bool (is_name m.target.base o.target.base)) as (λ _. IsSoundAt (filled (m ∷ ms)) o) [
      | inl on ↦
          let same : m.target.base ≡ o.target.base = is_name-true m.target.base o.target.base on in
          inr (subst (λ b. homes (filled (m ∷ ms)) b ≡ m.body ∷ []) same (put_home m here (filled ms) (first_none m ms targets distinct))
          ∙ ap (λ x. x ∷ []) (All-head (λ m. m.target.base ≡ o.target.base → m.body ≡ o.body) m ms alike same))
      | inr off ↦ subst (λ h. (h ≡ []) ⊎ (h ≡ o.body ∷ [])) (sym (put_apart m here (filled ms) o.target.base off))
          (filled_sound ms (All-tail (λ m. IsTarget m.target) m ms targets) (rest_distinct m ms distinct) o
          (All-tail (λ m. m.target.base ≡ o.target.base → m.body ≡ o.body) m ms alike))
    ]

filled_tmp : (ms : List Message) → (filled ms).tmp ≡ no_files.tmp
filled_tmp [] = refl
filled_tmp (m ∷ ms) = tmp_added (filled ms) m.target.name m.body m.target.base m.target.place ∙ filled_tmp ms

pub filled_swept : (spared : Spared) (ms : List Message) → IsSwept spared (filled ms)
filled_swept spared ms name is = ap (λ m. get m name) (filled_tmp ms) ∙ get-empty {X = List ℕ} name_cmp name

-- without its first message, each base has no home, or what it has with it
pub without_first : (m : Message) (ms : List Message) → All (λ m. IsTarget m.target) (m ∷ ms) → AreDistinct (m ∷ ms) → (b : List ℕ)
    → (homes (filled ms) b ≡ []) ⊎ (homes (filled ms) b ≡ homes (filled (m ∷ ms)) b)
without_first m ms targets distinct b = elim (cases_Bool (is_name m.target.base b))
    as (λ _. (homes (filled ms) b ≡ []) ⊎ (homes (filled ms) b ≡ homes (filled (m ∷ ms)) b)) [
      | inl on ↦ inl (subst (λ b. homes (filled ms) b ≡ []) (is_name-true m.target.base b on) (first_none m ms targets distinct))
      | inr off ↦ inr (sym (put_apart m (All-head (λ m. IsTarget m.target) m ms targets) (filled ms) b off))
    ]
