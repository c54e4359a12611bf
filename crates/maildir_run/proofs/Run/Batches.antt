-- One more entry of a batch.
use Rattle.std.proofs.Common.{◌≡◌, ℕ, ◌+◌, ◌<◌, ◌≤◌, ◌^◌, List, [], ◌∷◌, ◌++◌, take, drop, length, get_or, sym, ap, ◌∙◌}
use Rattle.std.proofs.Common.{arith, length-append, append_assoc, append-nil, take-append-drop, length-take-le, ◌*◌}
use Rattle.maildir_run.proofs.Common.{take_more, map-append, length-map, nil_from_length, Entry, target, messages_of, bodies_of, message_at, messages_after}
use Rattle.maildir_run.proofs.Chains.MessageLemmas.{messages_of-push, length-messages_of}

-- more bodies add messages after the others
pub no_messages : messages_of [] ≡ []
no_messages = nil_from_length (messages_of []) (length-messages_of [])

pub after_these : (xs ys : List (List ℕ)) → messages_of (xs ++ ys) ≡ messages_of xs ++ messages_after xs ys
after_these xs [] = grind (arith, append-nil)
after_these xs (y ∷ ys) =
    let m = message_at (target xs y) y in
    ap messages_of (sym (append_assoc xs (y ∷ []) ys)) ∙ after_these (xs ++ y ∷ []) ys
    ∙ ap (λ ms. ms ++ messages_after (xs ++ y ∷ []) ys) (messages_of-push xs y)
    ∙ append_assoc (messages_of xs) (m ∷ []) (messages_after (xs ++ y ∷ []) ys)

pub all_messages : (bodies : List (List ℕ)) → messages_after [] bodies ≡ messages_of bodies
all_messages bodies = ap (λ ms. ms ++ messages_after [] bodies) (sym no_messages) ∙ sym (after_these [] bodies)

-- the bodies of the first entries, one more, and the others
module _ (entries : List Entry) (i : ℕ) (entry : Entry) (h : i < length entries) (is : entry ≡ get_or entries i entry) where
  pub bodies_next : (bodies : List (List ℕ)) → bodies ++ bodies_of (take (i + 1) entries) ≡ (bodies ++ bodies_of (take i entries)) ++ entry.body ∷ []
  bodies_next bodies =
      ap (λ xs. bodies ++ xs)
      (ap bodies_of (take_more entries i entry h) ∙ map-append (λ (e : Entry). e.body) (take i entries) (get_or entries i entry ∷ [])
      ∙ ap (λ (e : Entry). bodies_of (take i entries) ++ e.body ∷ []) (sym is))
      ∙ sym (append_assoc bodies (bodies_of (take i entries)) (entry.body ∷ []))

  pub bodies_split : (bodies : List (List ℕ))
      → bodies ++ bodies_of entries ≡ ((bodies ++ bodies_of (take i entries)) ++ entry.body ∷ []) ++ bodies_of (drop (i + 1) entries)
  bodies_split bodies =
      ap (λ xs. bodies ++ bodies_of xs) (sym (take-append-drop (i + 1) entries))
      ∙ ap (λ xs. bodies ++ xs) (map-append (λ (e : Entry). e.body) (take (i + 1) entries) (drop (i + 1) entries))
      ∙ sym (append_assoc bodies (bodies_of (take (i + 1) entries)) (bodies_of (drop (i + 1) entries)))
      ∙ ap (λ xs. xs ++ bodies_of (drop (i + 1) entries)) (bodies_next bodies)

  pub few_next : (bodies : List (List ℕ)) → length bodies + length entries ≤ 2 ^ 63 → length (bodies ++ bodies_of (take i entries)) < 2 ^ 63
  few_next bodies few = grind (arith, length-append, length-map, length-take-le)

-- ---- the numbers of a run
-- one more batch
pub batch_fits : {messages reads : ℕ} (given : List Entry) {whole entries : List Entry} → messages ≡ length given
    → length (given ++ whole) ≤ 65536 * reads → reads ≤ 2 ^ 40 → entries ≡ whole → messages + length entries < 2 ^ 63
batch_fits given {whole} count few most e = omega (arith, length-append given whole, ap length e)

pub batch_count : (messages all : ℕ) (given whole entries : List Entry) → messages ≡ length given
    → all ≡ messages + length entries → entries ≡ whole → all ≡ length (given ++ whole)
batch_count messages all given whole entries count more e = omega (arith, length-append given whole, ap length e)

pub batch_begun : (given more : List Entry) → 0 < length given → 0 < length (given ++ more)
batch_begun given more h = omega (arith, length-append given more)
