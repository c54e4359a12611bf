-- A write that appends in several steps while no other program acts.
use Rattle.std.proofs.Common.{◌≡◌, inl, inr, ℕ, List, [], ◌∷◌, ◌++◌, refl, ◌∙◌, Result, Ok, Err, take, rules}
use Rattle.maildir_disk.proofs.Common.{Error, Files, Writing, Move, Other, Again, Torn, after, effect, IsOwn, CalledQuietly, AppendedQuietly, changed}
use Rattle.maildir_disk.proofs.Calls.Pieces.{changed_again}
use Rattle.maildir_disk.proofs.Common.{all_bases}

-- the effect of a torn write, as a write of other bytes
abbrev as_torn : List ℕ → List Move → List Move
as_torn bytes [] = []
as_torn bytes (Other action ∷ ms) = Other action ∷ as_torn bytes ms
as_torn bytes (Again ∷ ms) = Torn bytes ∷ as_torn bytes ms
as_torn bytes (Torn held ∷ ms) = Torn held ∷ as_torn bytes ms

as_torn_own : (bytes : List ℕ) (ms : List Move) → IsOwn ms → IsOwn (as_torn bytes ms)
as_torn_own bytes [] own = tt
as_torn_own bytes (Other action ∷ ms) own = absurd own
as_torn_own bytes (Again ∷ ms) own = as_torn_own bytes ms own
as_torn_own bytes (Torn held ∷ ms) own = as_torn_own bytes ms own

after_torn : (name whole bytes : List ℕ) (ms : List Move) (s : Files) → IsOwn ms
    → after all_bases s (Writing name bytes) ms ≡ after all_bases s (Writing name whole) (as_torn bytes ms)
after_torn name whole bytes [] s own = refl
after_torn name whole bytes (Other action ∷ ms) s own = absurd own
after_torn name whole bytes (Again ∷ ms) s own = after_torn name whole bytes ms (effect (Writing name bytes) s) own
after_torn name whole bytes (Torn held ∷ ms) s own = after_torn name whole bytes ms (effect (Writing name held) s) own

-- what a failed write leaves
abbrev pub WriteEndedEarly : List ℕ → List ℕ → Files → Files → Type 0
WriteEndedEarly name bytes old new = (moves : List Move) × IsOwn moves × (new ≡ after all_bases old (Writing name bytes) moves)

pub torn_quietly : {name : List ℕ} (held : List ℕ) {bytes : List ℕ} {old new : Files} → new ≡ effect (Writing name held) old
    → WriteEndedEarly name bytes old new
torn_quietly held left = (Torn held ∷ [], tt, left)

pub not_created_quietly : (name bytes : List ℕ) {old new : Files} → WriteEndedEarly name [] old new → WriteEndedEarly name bytes old new
not_created_quietly name bytes {old} (moves, own, left) = (as_torn [] moves, as_torn_own [] moves own, left ∙ after_torn name bytes [] moves old own)

pub written_quietly : {A E : Type 0} (name bytes : List ℕ) (old : Files) {new : Files} (outcome : Result A E)
    → new ≡ effect (Writing name bytes) old → CalledQuietly (Writing name bytes) old outcome new
written_quietly name bytes old (Ok _) left = (tt, left)
written_quietly name bytes old (Err _) left = torn_quietly bytes left

pub grown_quietly : (name held : List ℕ) (change : List ℕ → List ℕ) (old : Files) {mid new : Files}
    → mid ≡ effect (Writing name held) old → new ≡ changed name change mid → new ≡ effect (Writing name (change held)) old
grown_quietly name held change old had made = search (rules, changed_again)

pub appended_quietly : {name : List ℕ} (held piece : List ℕ) {bytes : List ℕ} {old mid new : Files} (outcome : Result ℕ Error)
    → mid ≡ effect (Writing name held) old → AppendedQuietly name piece mid outcome new → WriteEndedEarly name bytes old new
appended_quietly {name} held piece {bytes} {old} (Ok n) had made = torn_quietly _ (grown_quietly name held (λ h. h ++ take n piece) old had made)
appended_quietly {name} held piece {bytes} {old} (Err error) had (inl same) = torn_quietly held (same ∙ had)
appended_quietly {name} held piece {bytes} {old} (Err error) had (inr other) =
    torn_quietly other.1 (grown_quietly name held (λ _. other.1) old had other.2)
