use Rattle.std.proofs.Common.{◌≡◌, ◌∙◌, ℕ, ◌≤◌, [], ◌∷◌, length, refl, sym, inl, inr, arith, IsPermutation, Some, None, min, max}
use Rattle.maildir_disk.proofs.Common.{empty, insert, keys, entries, get, get-entries, FileMap, get-insert_same, World, IsOfChange, IsSettled, IsFarAhead}
use Rattle.std.proofs.lemmas.List.{length-map, nil_from_length}
use Rattle.std.proofs.lemmas.List.Sorted.{length_permutation}
use Rattle.maildir_disk.proofs.Calls.Passing.{within}
use Rattle.maildir_disk.proofs.laws.no_shorter_wait.Goals as goal

one_file : FileMap
one_file = insert empty (97 ∷ []) []

missed : IsPermutation [] (keys one_file) → ⊥
unfolding one_file
missed h =
    let none : length (entries one_file) ≡ 0 = sym (length-map (entries one_file) (λ e. e.0)) ∙ length_permutation [] (keys one_file) h in
    let gone : get one_file (97 ∷ []) ≡ None = get-entries one_file (97 ∷ []) ∙ rw (nil_from_length (entries one_file) none) refl in
    let there : get one_file (97 ∷ []) ≡ Some [] = get-insert_same empty (97 ∷ []) [] in
    cc

abbrev moment : ℕ → ℕ → World
moment time stamp = record { files = record { tmp = empty; new = one_file; cur = empty }; time = time; stamp_of = λ _. stamp }

-- a change at the time in the listing that is nearest to the stamp
change : (now later stamp : ℕ) → now ≤ later → ¬ IsSettled stamp now → ¬ IsFarAhead stamp later → IsOfChange now later stamp
change now later stamp le young near =
    let some = within stamp in
    record {
      time = max now (min stamp later);
      no_earlier = omega arith;
      no_later = omega (arith, le);
      less_after = omega (arith, young, some);
      less_ahead = omega (arith, near, some, le);
    }

pub returns : goal.returns
returns c = λ now later stamp le young near. record {
  old = moment now stamp;
  new = moment later stamp;
  begins = refl;
  ends = refl;
  stamped = refl;
  same = refl;
  passes = record { acts = record { actions = []; files_are = refl }; later = le; stamp_is = inl refl };
  reads = inr (change now later stamp le young near);
  missed = missed;
}
