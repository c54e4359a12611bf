-- The bases of equal bodies.
use Rattle.std.proofs.Common.{◌≡◌, ℕ, cond, List, [], ◌∷◌, ◌++◌, length, zip, count_by, refl, sym, rules}
use Rattle.std.proofs.Common.{◌∙◌, ap, arith, All, bytes_eq, add-zero, append-nil, append_assoc}
use Rattle.std.specs.Cmp.Lexicographic.{bytes_decides}
use Rattle.std.proofs.lemmas.Bool.{cases_Bool, false_from_ne_true, both_ways}
use Rattle.std.proofs.lemmas.List.{map-append, get_or_append_left, get_or_push, length_push}
use Rattle.std.proofs.lemmas.List.Elements.{filter-append}
use Rattle.std.proofs.lemmas.List.FromFn.{map-range_with_len_more}
use Rattle.sha2.specs.Sha256.{sha256}
use Rattle.maildir_name.specs.Targets.{numbered, same_digest, target, bases_of, numbered_up_to}
use Rattle.maildir_name.proofs.DistinctBases.{number_after-is, target-base}
use Rattle.maildir_name.proofs.NamerLemmas.{count-push}
use Rattle.maildir_name.proofs.TargetLemmas.{length-targets, targets-push}

-- induction on lists of bodies, by one more body at the end
by_one_more : (P : List (List ℕ) → Type 0) → P [] → ((bodies : List (List ℕ)) (body : List ℕ) → P bodies → P (bodies ++ body ∷ []))
    → (prefix back : List (List ℕ)) → P prefix → P (prefix ++ back)
by_one_more P none more prefix [] h = rw (append-nil prefix) h
by_one_more P none more prefix (body ∷ back) h = grind (arith, by_one_more P none more (prefix ++ body ∷ []) back (more prefix body h), append_assoc)

zip-push : {A B : Type 0} (xs : List A) (ys : List B) (a : A) (b : B) → length xs ≡ length ys → zip (xs ++ a ∷ []) (ys ++ b ∷ []) ≡ zip xs ys ++ (a, b) ∷ []
zip-push [] [] a b e = refl
zip-push [] (y ∷ ys) a b e = absurd (omega (arith, e))
zip-push (x ∷ xs) [] a b e = absurd (omega (arith, e))
zip-push (x ∷ xs) (y ∷ ys) a b e = ap (λ l. (x, y) ∷ l) (zip-push xs ys a b (omega (arith, e)))

-- each body with this digest is this body
abbrev pub IsAlone : List ℕ → List (List ℕ) → Type 0
IsAlone body bodies = All (λ other. sha256 other ≡ sha256 body → other ≡ body) bodies

alone-prefix : (body : List ℕ) (bodies : List (List ℕ)) (last : List ℕ) → IsAlone body (bodies ++ last ∷ []) → IsAlone body bodies
alone-prefix body bodies last h k d below = grind (arith, length_push, get_or_append_left)

alone-last : (body : List ℕ) (bodies : List (List ℕ)) (last : List ℕ) → IsAlone body (bodies ++ last ∷ []) → sha256 last ≡ sha256 body → last ≡ body
alone-last body bodies last h = grind (arith, length_push, get_or_push)

-- such a body has the digest of another just if they are equal
alone-same : (body last : List ℕ) → (sha256 last ≡ sha256 body → last ≡ body) → same_digest body last ≡ bytes_eq body last
alone-same body last h = search (rules, cases_Bool, false_from_ne_true, both_ways)

count-alone : (body : List ℕ) (bodies : List (List ℕ)) → IsAlone body bodies → count_by (same_digest body) bodies ≡ count_by (bytes_eq body) bodies
count-alone body bodies = by_one_more (λ l. IsAlone body l → count_by (same_digest body) l ≡ count_by (bytes_eq body) l) (λ _. refl)
    (λ l last before h.
    let e = before (alone-prefix body l last h) in
    count-push (same_digest body) l last ∙ (rw (e, alone-same body last (alone-last body l last h)) (sym (count-push (bytes_eq body) l last))))
    [] bodies (λ _. refl)

bases-push : (body : List ℕ) (bodies : List (List ℕ)) (last : List ℕ)
    → bases_of body (bodies ++ last ∷ []) ≡ bases_of body bodies ++ cond (bytes_eq body last) ((target bodies last).base ∷ []) []
bases-push body bodies last = grind (arith, bytes_eq, targets-push, zip-push, length-targets, filter-append, map-append, cases_Bool)

bases-more : (body : List ℕ) (bodies : List (List ℕ)) (last : List ℕ)
    → (IsAlone body bodies → bases_of body bodies ≡ numbered_up_to body (count_by (bytes_eq body) bodies))
    → IsAlone body (bodies ++ last ∷ []) → bases_of body (bodies ++ last ∷ []) ≡ numbered_up_to body (count_by (bytes_eq body) (bodies ++ last ∷ []))
bases-more body bodies last before h = grind (
  arith,
  bases-push,
  count-push (bytes_eq body) bodies last,
  cases_Bool (bytes_eq body last),
  bytes_decides body last,
  number_after-is bodies body,
  count-alone body bodies,
  alone-prefix body bodies last h,
  target-base bodies last,
  map-range_with_len_more (numbered body) 1 (count_by (bytes_eq body) bodies),
  append-nil,
  add-zero,
)

pub bases-equal : (bodies : List (List ℕ)) (body : List ℕ) → IsAlone body bodies → bases_of body bodies ≡ numbered_up_to body (count_by (bytes_eq body) bodies)
bases-equal bodies body =
    by_one_more (λ l. IsAlone body l → bases_of body l ≡ numbered_up_to body (count_by (bytes_eq body) l))
    (λ _. refl) (λ l last before. bases-more body l last before) [] bodies (λ _. refl)
