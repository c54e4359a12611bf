-- What a power cut leaves, where it leaves all that is there; and from one moment to another.
use Rattle.std.proofs.Common.{◌≡◌, List, [], ◌∷◌, ◌++◌, map, Ok, Err, Result, refl, sym, subst, ◌∙◌, inl, inr}
use Rattle.maildir_run.proofs.Common.{FolderFault, Call, Called, Writing, Move, Succeeded, Spared}
use Rattle.maildir_run.proofs.Common.{Again, after, moved, Came, Leaves, LeavesOf, IsFoundWhole, Follows, left_after, Files}
use Rattle.maildir_run.proofs.Common.{AnyMoves}
use Rattle.std.proofs.Common.{IsTrue}
use Rattle.maildir_run.specs.Cuts.{AreWhole, CutMove, Doubled}
use Rattle.maildir_run.proofs.Call.Moves.{writing_ok}

left_moves : (spared : Spared) (s : Files) (call : Call) (moves : List Move) → left_after (moved spared call) s (map Came moves) ≡ after spared s call moves
left_moves spared s call [] = refl
left_moves spared s call (move ∷ moves) = left_moves spared (moved spared call move s) call moves

came_whole : (moves : List Move) → AreWhole (map Came moves)
came_whole [] = tt
came_whole (move ∷ moves) = came_whole moves

pub leaves_moves : (spared : Spared) (call : Call) (old new : Files) (moves : List Move) → new ≡ after spared old call moves → Leaves spared call old new
leaves_moves spared call old new moves e = record {
  kept = map Came moves;
  are = e ∙ sym (left_moves spared old call moves);
  whole = λ is. came_whole moves;
}

-- where no rename is half kept, a cut leaves moves of the call
moves_of : List (CutMove Move) → List Move
moves_of [] = []
moves_of (Came move ∷ kept) = move ∷ moves_of kept
moves_of (Doubled action ∷ kept) = moves_of kept

came_moves : (spared : Spared) (call : Call) (kept : List (CutMove Move)) (s : Files) → AreWhole kept
    → left_after (moved spared call) s kept ≡ after spared s call (moves_of kept)
unfolding moves_of
came_moves spared call [] s whole = refl
came_moves spared call (Came move ∷ kept) s whole = came_moves spared call kept (moved spared call move s) whole
came_moves spared call (Doubled action ∷ kept) s whole = absurd whole

pub whole_moves : {spared : Spared} {call : Call} {old new : Files} → IsTrue spared.whole → Leaves spared call old new → AnyMoves spared call old new
whole_moves {spared} {call} {old} is h = record { moves = moves_of h.kept; left = h.are ∙ came_moves spared call h.kept old (h.whole is) }

found_whole : {spared : Spared} (call : Call) {old new : Files} → Succeeded spared call old new → IsFoundWhole spared call new
found_whole {spared} (Writing name bytes) {old} {new} done = λ ours held has.
    elim (writing_ok name bytes spared ours old new done) [
      | inl is ↦ let e = sym has ∙ is in cc
      | inr gone ↦ let e = sym has ∙ gone in cc
    ]
found_whole other done = tt

leaves_called : (spared : Spared) {A : Type 0} (call : Call) (old : Files) (r : Result A FolderFault) (new : Files) → Called spared call old r new
    → LeavesOf spared call old r new
leaves_called spared call old (Ok x) new h = (leaves_moves spared call old new (h.before ++ Again ∷ h.rest) h.left, found_whole call h)
leaves_called spared call old (Err e) new h = leaves_moves spared call old new h.moves h.left

-- ---- where a cut leaves what is there, and that alone
pub all_left : (of : Files → Files → Type 0) {old new : Files} → of old new → Follows of (λ left. left ≡ old) (λ left. left ≡ new)
all_left of {old} h left e = (old, refl, subst (of old) (sym e) h)

pub called_left : (spared : Spared) {A : Type 0} (call : Call) {old : Files} (r : Result A FolderFault) {new : Files}
    → Called spared call old r new → Follows (λ before now. LeavesOf spared call before r now) (λ left. left ≡ old) (λ left. left ≡ new)
called_left spared call {old} r {new} h = all_left (λ before now. LeavesOf spared call before r now) (leaves_called spared call old r new h)

-- ---- from one moment to another
pub left_as : (of other : Files → Files → Type 0) (before now : Files → Type 0)
    → ((old new : Files) → of old new → other old new) → Follows of before now → Follows other before now
left_as of other before now f h new may = let r = h new may in (r.0, r.1, f r.0 new r.2)

pub left_then : (first then both : Files → Files → Type 0) (a b c : Files → Type 0)
    → ((x y z : Files) → first x y → then y z → both x z) → Follows first a b → Follows then b c → Follows both a c
left_then first then both a b c f h k new may = let r = k new may in let q = h r.0 r.1 in (q.0, q.1, f q.0 r.0 new q.2 r.2)
