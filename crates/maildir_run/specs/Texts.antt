-- The messages of a text, as a folder is to have them.
use Rattle.std.specs.Prelude.{◌≡◌, ℕ, List, [], ◌∷◌, ◌⊎◌, map}
use Rattle.mbox_text.specs.declared.entry.Entry.{Entry}
use Rattle.mbox_text.specs.Mbox.{Mbox, IsUnreadable}
use Rattle.maildir_name.specs.declared.target.Target.{Target}
use Rattle.maildir_name.specs.Targets.{targets}
use Rattle.maildir_run.specs.Delivery.{Message}

-- each target with its body
abbrev pub with_bodies : List Target → List (List ℕ) → List Message
with_bodies [] bodies = []
with_bodies (target ∷ targets) [] = []
with_bodies (target ∷ targets) (body ∷ bodies) = record { target = target; body = body } ∷ with_bodies targets bodies

-- the messages with these bodies, each at its target
abbrev pub messages_of : List (List ℕ) → List Message
messages_of bodies = with_bodies (targets bodies) bodies

-- the bodies of some entries
abbrev pub bodies_of : List Entry → List (List ℕ)
bodies_of entries = map (λ entry. entry.body) entries

-- these are the messages of a text: one for each entry, in order; none if the text is in `Mbox` with no list (mbox(5))
abbrev pub MessagesOf : List ℕ → List Message → Type 0
MessagesOf t ms =
    ((entries : List Entry) × Mbox t entries × (ms ≡ messages_of (bodies_of entries)))
    ⊎ (IsUnreadable t × (ms ≡ []))
