-- A word without a slash at its end.
use Rattle.std.proofs.Common.{◌≡◌, ◌≢◌, ◌==◌, ℕ, true, cond, List, [], ◌∷◌, ◌++◌, Option, Some, refl, sym, ap, subst, ◌∙◌, inl, inr, arith}
use Rattle.std.proofs.lemmas.Bool.{cases_Bool}
use Rattle.std.specs.Map.{update}
use Rattle.std.specs.Str.{bytes_eq}
use Rattle.maildir_memory.specs.declared.mem_system.MemSystem.{MemSystem}
use Rattle.maildir_memory.specs.MemMachines.{without_slash}

pub slash_gone : (front : List ℕ) → without_slash (front ++ 47 ∷ []) ≡ front
slash_gone [] = refl
slash_gone (c ∷ []) = refl
slash_gone (c ∷ d ∷ front) = ap (λ word. c ∷ word) (slash_gone (d ∷ front))

is_slash : (c : ℕ) → (c == 47) ≡ true → c ≡ 47
is_slash c on = grind (arith, on)

pub no_slash : (word : List ℕ) → ((front : List ℕ) → word ≢ front ++ 47 ∷ []) → without_slash word ≡ word
no_slash [] none = refl
no_slash (c ∷ []) none = elim (cases_Bool (c == 47)) as (λ _. without_slash (c ∷ []) ≡ c ∷ []) [
  | inl on ↦ absurd (none [] (ap (λ d. d ∷ []) (is_slash c on)))
  | inr off ↦ ap (λ t. cond t [] (c ∷ [])) off
]
no_slash (c ∷ d ∷ word) none = ap (λ rest. c ∷ rest) (no_slash (d ∷ word) (λ front same. none (c ∷ front) (ap (λ rest. c ∷ rest) same)))

-- what is looked up under a word without its slash
module _ (old new : List ℕ → Option (Option MemSystem)) (slot : Option MemSystem) (path : List ℕ) {key : List ℕ} (is : key ≡ without_slash path) where
  pub updates_at : ((word : List ℕ) → new word ≡ update bytes_eq old key (Some slot) word)
      → (word : List ℕ) → new word ≡ update bytes_eq old (without_slash path) (Some slot) word
  updates_at = subst (λ k. (word : List ℕ) → new word ≡ update bytes_eq old k (Some slot) word) is

  pub found_at : {found : Option (Option MemSystem)} → old key ≡ found → old (without_slash path) ≡ found
  found_at same = ap old (sym is) ∙ same
