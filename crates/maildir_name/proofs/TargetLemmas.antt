-- The targets of lists of bodies.
use Rattle.std.proofs.Common.{◌≡◌, ℕ, ◌+◌, ◌<◌, ◌≤◌, List, [], ◌∷◌, ◌++◌, length, get_or, take, map, refl, arith, length-append, le_of_lt}
use Rattle.std.specs.List.{range_with_len}
use Rattle.std.proofs.lemmas.List.{length_push, take-append-le, get_or_append_left, get_or_push, same_lists, take_at}
use Rattle.std.proofs.lemmas.List.FromFn.{map-range_with_len_more, take-map-range_with_len, length-map-range_with_len, get_or-map-range_with_len}
use Rattle.maildir_name.specs.declared.target.Target.{Target}
use Rattle.maildir_name.specs.Targets.{target, targets}

-- the target at place k
abbrev pub target_at : List (List ℕ) → ℕ → Target
target_at bodies k = target (take k bodies) (get_or bodies k [])

-- the targets of the first bodies stay when more bodies follow
pub target_at-append : (bodies more : List (List ℕ)) (k : ℕ) → k < length bodies → target_at (bodies ++ more) k ≡ target_at bodies k
target_at-append bodies more k h = grind (arith, le_of_lt, take-append-le, get_or_append_left)

pub length-targets : (bodies : List (List ℕ)) → length (targets bodies) ≡ length bodies
unfolding targets
length-targets bodies = grind (arith, length-map-range_with_len)

pub get_or-targets : (bodies : List (List ℕ)) (k : ℕ) (d : Target) → k < length bodies → get_or (targets bodies) k d ≡ target_at bodies k
unfolding targets
get_or-targets bodies k d h = grind (arith, get_or-map-range_with_len)

map-agree : (f g : ℕ → Target) (a n : ℕ) → ((k : ℕ) → a ≤ k → k < a + n → f k ≡ g k) → map f (range_with_len a n) ≡ map g (range_with_len a n)
map-agree f g a n h = grind (arith, same_lists, length-map-range_with_len, get_or-map-range_with_len)

pub targets-push : (bodies : List (List ℕ)) (body : List ℕ) → targets (bodies ++ body ∷ []) ≡ targets bodies ++ target bodies body ∷ []
unfolding targets
targets-push bodies body =
    let all = bodies ++ body ∷ [] in
    let n = length bodies in
    rw (length_push bodies body, map-range_with_len_more (target_at all) 0 n n (omega arith))
    (rw (
      map-agree (target_at all) (target_at bodies) 0 n (λ k low high. target_at-append bodies (body ∷ []) k (omega arith)),
      take_at bodies (body ∷ []) n refl,
      get_or_push bodies body [] n refl,
    ) refl)

-- the targets of a prefix
pub targets-prefix : (bodies more : List (List ℕ)) → take (length bodies) (targets (bodies ++ more)) ≡ targets bodies
unfolding targets
targets-prefix bodies more = grind (arith, take-map-range_with_len, length-append, map-agree, target_at-append)
