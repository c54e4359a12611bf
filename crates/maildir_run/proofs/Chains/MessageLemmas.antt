-- The messages of a text: their bases are a converter's, and no two are the same.
use Rattle.std.proofs.Common.{◌≡◌, ℕ, ◌<◌, ◌≤◌, ◌^◌, List, [], ◌∷◌, ◌++◌, map, length, get_or, All, IsFalse, refl, sym, ap, subst, ◌∙◌, inl, inr, arith}
use Rattle.maildir_run.proofs.Common.{length-map, get_or-map, All-nil, Entry, Target, base}
use Rattle.maildir_run.proofs.Common.{IsConverterBase, target, targets, length-targets, targets-push, is_name, Message}
use Rattle.maildir_run.proofs.Common.{AreNamed, AreDistinct, with_bodies, messages_of, bodies_of, MessagesOf, IsTarget}
use Rattle.mbox_text.specs.Mbox.{Mbox}
use Rattle.mbox_text.proofs.Reading.FirstGiven.{mbox-length}
use Rattle.maildir_name.proofs.DistinctBases.{named-targets, distinct-targets}
use Rattle.maildir_run.proofs.Names.Maps.{is_name-true, is_name-refl}

-- ---- each target with its body
pub targets_of : (ts : List Target) (bodies : List (List ℕ)) → length ts ≡ length bodies → map (λ (m : Message). m.target) (with_bodies ts bodies) ≡ ts
targets_of [] bodies e = refl
targets_of (t ∷ ts) [] e = absurd (omega arith)
targets_of (t ∷ ts) (body ∷ bodies) e = ap (λ xs. t ∷ xs) (targets_of ts bodies (omega arith))

pub length-messages_of : (bodies : List (List ℕ)) → length (messages_of bodies) ≡ length bodies
length-messages_of bodies =
    sym (length-map (messages_of bodies) (λ (m : Message). m.target))
    ∙ ap length (targets_of _ bodies (length-targets bodies))
    ∙ length-targets bodies

with_bodies-push : (ts : List Target) (bodies : List (List ℕ)) (t : Target) (body : List ℕ) → length ts ≡ length bodies
    → with_bodies (ts ++ t ∷ []) (bodies ++ body ∷ []) ≡ with_bodies ts bodies ++ record { target = t; body = body } ∷ []
with_bodies-push [] [] t body e = refl
with_bodies-push [] (b ∷ bodies) t body e = absurd (omega arith)
with_bodies-push (x ∷ ts) [] t body e = absurd (omega arith)
with_bodies-push (x ∷ ts) (b ∷ bodies) t body e = ap (λ ms. record { target = x; body = b } ∷ ms) (with_bodies-push ts bodies t body (omega arith))

-- one more body adds one message, after the others
module _ (bodies : List (List ℕ)) where
  pub messages_of-push : (body : List ℕ) → messages_of (bodies ++ body ∷ []) ≡ messages_of bodies ++ record { target = target bodies body; body = body } ∷ []
  messages_of-push body = grind (arith, targets-push, with_bodies-push, length-targets)

  -- ---- their bases
  get_target : (k : ℕ) (d : Message) → k < length (messages_of bodies) → get_or (targets bodies) k d.target ≡ (get_or (messages_of bodies) k d).target
  get_target k d below =
      ap (λ ts. get_or ts k d.target) (sym (targets_of _ bodies (length-targets bodies)))
      ∙ get_or-map (λ (m : Message). m.target) (messages_of bodies) k d d.target below

  as_many : length (messages_of bodies) ≡ length (targets bodies)
  as_many = length-messages_of bodies ∙ sym (length-targets bodies)

  pub messages_named : length bodies ≤ 2 ^ 63 → AreNamed (messages_of bodies)
  messages_named few k d below =
      rw (get_target k d below) at (named-targets bodies few k d.target (omega (arith, below, as_many))).converter

pub target_is : {t : Target} → IsConverterBase t.base × (base t.base ≡ t.base) × (base t.name ≡ t.base) → IsTarget t
target_is {t} h = grind (arith, is_name-refl)

pub messages_targets : (bodies : List (List ℕ)) → length bodies ≤ 2 ^ 63 → All (λ m. IsTarget m.target) (messages_of bodies)
messages_targets bodies few k d below =
    subst IsTarget (get_target bodies k d below)
    (let named = named-targets bodies few k d.target (omega (arith, below, as_many bodies)) in
    target_is (named.converter, named.own_base, named.same_base))

different : (a b : List ℕ) → (a ≡ b → ⊥) → IsFalse (is_name a b)
different a b apart = grind (arith, is_name-true)

pub messages_distinct : (bodies : List (List ℕ)) → length bodies ≤ 2 ^ 63 → AreDistinct (messages_of bodies)
messages_distinct bodies few i j d lt below =
    let base_i : (get_or (targets bodies) i d.target).base ≡ (get_or (messages_of bodies) i d).target.base = grind (arith, get_target) in
    let base_j : (get_or (targets bodies) j d.target).base ≡ (get_or (messages_of bodies) j d).target.base = grind (arith, get_target) in
    grind (arith, different, distinct-targets, as_many)

-- ---- a text has no more messages than bytes
pub few_bodies_of_text : (t : List ℕ) (entries : List Entry) → Mbox t entries → length t < 2 ^ 63 → length (bodies_of entries) ≤ 2 ^ 63
few_bodies_of_text t entries is small = grind (arith, mbox-length, length-map)

module _ (t : List ℕ) (ms : List Message) where
  pub text_named : MessagesOf t ms → length t < 2 ^ 63 → AreNamed ms
  text_named h small = grind (arith, messages_named, few_bodies_of_text, All-nil)

  pub text_distinct : MessagesOf t ms → length t < 2 ^ 63 → AreDistinct ms
  text_distinct h small = grind (arith, messages_distinct, few_bodies_of_text)

  pub text_targets : MessagesOf t ms → length t < 2 ^ 63 → All (λ m. IsTarget m.target) ms
  text_targets (inl (entries, is, e)) small =
      subst (All (λ m. IsTarget m.target)) (sym e) (messages_targets _ (omega (arith, few_bodies_of_text t entries is small)))
  text_targets (inr (none, e)) small = grind arith
