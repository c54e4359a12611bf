-- What a power cut leaves, from one moment of a call to the next.
use Rattle.std.proofs.Common.{◌≡◌, inl, inr, ℕ, List, [], ◌∷◌, ◌++◌, refl, ap, sym, ◌∙◌, IsErr, IsOk, OnErr, OnOk, Result, Ok, Err}
use Rattle.std.proofs.lemmas.Bool.{false≢true}
use Rattle.maildir_run.specs.Cuts.{AreWhole}
use Rattle.maildir_disk.proofs.Common.{Call, Writing, Move, Other, Again, Torn, Succeeded, moved, CutMove, Came, Doubled, Leaves, LeavesOf, Spared}
use Rattle.maildir_disk.proofs.Common.{IsFoundWhole, Follows, left_after, doubled, Action, acted, Files, left_as, writing_ok, LeftByOthers, KeepsHeld}

-- ---- two steps in sequence
left_after-append : {M : Type 0} (does : M → Files → Files) (xs ys : List (CutMove M)) (s : Files)
    → left_after does s (xs ++ ys) ≡ left_after does (left_after does s xs) ys
left_after-append does [] ys s = refl
left_after-append does (Came move ∷ xs) ys s = left_after-append does xs ys (does move s)
left_after-append does (Doubled action ∷ xs) ys s = left_after-append does xs ys (doubled action s)

whole_both : {M : Type 0} (xs ys : List (CutMove M)) → AreWhole xs → AreWhole ys → AreWhole (xs ++ ys)
whole_both [] ys h k = k
whole_both (Came move ∷ xs) ys h k = whole_both xs ys h k
whole_both (Doubled action ∷ xs) ys h k = absurd h

pub leaves_none : {spared : Spared} {call : Call} {s : Files} → Leaves spared call s s
leaves_none = record { kept = []; are = refl; whole = λ is. tt }

pub leaves_then : {spared : Spared} {call : Call} {a b c : Files} → Leaves spared call a b → Leaves spared call b c → Leaves spared call a c
leaves_then {spared} {call} {a} first then =
    let does = moved spared call in
    record {
      kept = first.kept ++ then.kept;
      are = then.are ∙ (ap (λ s. left_after does s then.kept) first.are ∙ sym (left_after-append does first.kept then.kept a));
      whole = λ is. whole_both first.kept then.kept (first.whole is) (then.whole is);
    }

pub others_none : {spared : Spared} {s : Files} → LeftByOthers spared s s
others_none = record { kept = []; are = refl; whole = λ is. tt }

pub others_then : {spared : Spared} {a b c : Files} → LeftByOthers spared a b → LeftByOthers spared b c → LeftByOthers spared a c
others_then {spared} {a} first then = record {
  kept = first.kept ++ then.kept;
  are =
      then.are ∙ (ap (λ s. left_after (acted spared) s then.kept) first.are
      ∙ sym (left_after-append (acted spared) first.kept then.kept a));
  whole = λ is. whole_both first.kept then.kept (first.whole is) (then.whole is);
}

-- ---- what other programs do within any call
as_moves : List (CutMove Action) → List (CutMove Move)
as_moves [] = []
as_moves (Came action ∷ kept) = Came (Other action) ∷ as_moves kept
as_moves (Doubled action ∷ kept) = Doubled action ∷ as_moves kept

as_moves_after : (spared : Spared) (call : Call) (kept : List (CutMove Action)) (s : Files)
    → left_after (acted spared) s kept ≡ left_after (moved spared call) s (as_moves kept)
unfolding as_moves
as_moves_after spared call [] s = refl
as_moves_after spared call (Came action ∷ kept) s = as_moves_after spared call kept _
as_moves_after spared call (Doubled action ∷ kept) s = as_moves_after spared call kept _

as_moves_whole : (kept : List (CutMove Action)) → AreWhole kept → AreWhole (as_moves kept)
unfolding as_moves
as_moves_whole [] h = tt
as_moves_whole (Came action ∷ kept) h = as_moves_whole kept h
as_moves_whole (Doubled action ∷ kept) h = absurd h

pub others_leave : {spared : Spared} {call : Call} {a b : Files} → LeftByOthers spared a b → Leaves spared call a b
others_leave {spared} {call} {a} h = record {
  kept = as_moves h.kept;
  are = h.are ∙ as_moves_after spared call h.kept a;
  whole = λ is. as_moves_whole h.kept (h.whole is);
}

-- ---- a write of other bytes, torn
cut_moves_torn : List ℕ → List (CutMove Move) → List (CutMove Move)
cut_moves_torn held [] = []
cut_moves_torn held (Came (Other action) ∷ kept) = Came (Other action) ∷ cut_moves_torn held kept
cut_moves_torn held (Came Again ∷ kept) = Came (Torn held) ∷ cut_moves_torn held kept
cut_moves_torn held (Came (Torn bytes) ∷ kept) = Came (Torn bytes) ∷ cut_moves_torn held kept
cut_moves_torn held (Doubled action ∷ kept) = Doubled action ∷ cut_moves_torn held kept

torn_after : (spared : Spared) (name held bytes : List ℕ) (kept : List (CutMove Move)) (s : Files)
    → left_after (moved spared (Writing name held)) s kept ≡ left_after (moved spared (Writing name bytes)) s (cut_moves_torn held kept)
unfolding cut_moves_torn
torn_after spared name held bytes [] s = refl
torn_after spared name held bytes (Came (Other action) ∷ kept) s = torn_after spared name held bytes kept _
torn_after spared name held bytes (Came Again ∷ kept) s = torn_after spared name held bytes kept _
torn_after spared name held bytes (Came (Torn _) ∷ kept) s = torn_after spared name held bytes kept _
torn_after spared name held bytes (Doubled action ∷ kept) s = torn_after spared name held bytes kept _

torn_whole : (held : List ℕ) (kept : List (CutMove Move)) → AreWhole kept → AreWhole (cut_moves_torn held kept)
unfolding cut_moves_torn
torn_whole held [] h = tt
torn_whole held (Came (Other action) ∷ kept) h = torn_whole held kept h
torn_whole held (Came Again ∷ kept) h = torn_whole held kept h
torn_whole held (Came (Torn bytes) ∷ kept) h = torn_whole held kept h
torn_whole held (Doubled action ∷ kept) h = absurd h

pub leaves_torn : {spared : Spared} {name held bytes : List ℕ} {a b : Files} → Leaves spared (Writing name held) a b → Leaves spared (Writing name bytes) a b
leaves_torn {spared} {name} {held} {bytes} {a} h = record {
  kept = cut_moves_torn held h.kept;
  are = h.are ∙ torn_after spared name held bytes h.kept a;
  whole = λ is. torn_whole held h.kept (h.whole is);
}

-- ---- from one call to the next
pub left_both : {spared : Spared} {call : Call} {a b c : Files → Type 0} → Follows (Leaves spared call) a b → Follows (Leaves spared call) b c
    → Follows (Leaves spared call) a c
left_both first then new may = let r = then new may in let q = first r.0 r.1 in (q.0, q.1, leaves_then q.2 r.2)

pub left_early : {spared : Spared} {call : Call} {a b : Files → Type 0} → Follows (LeftByOthers spared) a b → Follows (Leaves spared call) a b
left_early others new may = let r = others new may in (r.0, r.1, others_leave r.2)

pub left_torn : {spared : Spared} {name held bytes : List ℕ} {a b : Files → Type 0} → Follows (Leaves spared (Writing name held)) a b
    → Follows (Leaves spared (Writing name bytes)) a b
left_torn torn new may = let r = torn new may in (r.0, r.1, leaves_torn r.2)

pub left_more : {spared : Spared} {call : Call} {a b c : Files → Type 0} → Follows (Leaves spared call) a b → Follows (LeftByOthers spared) b c
    → Follows (Leaves spared call) a c
left_more first then = left_both first (left_early then)

pub left_none : {spared : Spared} {call : Call} {a : Files → Type 0} → Follows (Leaves spared call) a a
left_none new may = (new, may, leaves_none)

-- and while only other programs act
pub left_by_others_then : {spared : Spared} {a b c : Files → Type 0} → Follows (LeftByOthers spared) a b → Follows (LeftByOthers spared) b c
    → Follows (LeftByOthers spared) a c
left_by_others_then first then new may = let r = then new may in let q = first r.0 r.1 in (q.0, q.1, others_then q.2 r.2)

pub left_by_no_others : {spared : Spared} {a : Files → Type 0} → Follows (LeftByOthers spared) a a
left_by_no_others new may = (new, may, others_none)

-- ---- a call that returned Ok
pub on_ok : {A E : Type 0} (P : Type 0) (outcome : Result A E) → P → OnOk outcome P
on_ok P (Ok x) h = h
on_ok P (Err e) h = tt

pub if_ok : {A E : Type 0} (outcome : Result A E) {P : Type 0} → IsOk outcome → OnOk outcome P → P
if_ok (Ok x) is h = h
if_ok (Err e) is h = cc

-- a call that syncs nothing
pub left_always : {spared : Spared} {A E : Type 0} {call : Call} (outcome : Result A E) {a b : Files → Type 0} → ((s : Files) → IsFoundWhole spared call s)
    → Follows (Leaves spared call) a b → Follows (λ before now. LeavesOf spared call before outcome now) a b
left_always {spared} {call} (Ok x) {a} {b} whole h = left_as (Leaves spared call) _ a b (λ old new leaves. (leaves, whole new)) h
left_always (Err e) whole h = h

-- the result of the folder's call, from that of the system call
pub left_answered : (spared : Spared) {A E F : Type 0} (call : Call) (outcome : Result A E) (answer : Result A F) {a b : Files → Type 0}
    → OnErr outcome (IsErr answer)
    → Follows (λ before now. LeavesOf spared call before outcome now) a b → Follows (λ before now. LeavesOf spared call before answer now) a b
left_answered spared call (Ok x) (Ok y) is h = h
left_answered spared call (Ok x) (Err f) {a} {b} is h = left_as _ (Leaves spared call) a b (λ old new leaves. leaves.0) h
left_answered spared call (Err e) (Ok y) is h = absurd (false≢true is)
left_answered spared call (Err e) (Err f) is h = h

-- a file that was written and synced
pub left_written : {spared : Spared} {A E : Type 0} {name bytes : List ℕ} (outcome : Result A E) {a b : Files → Type 0} {old new : Files}
    → Succeeded spared (Writing name bytes) old new → OnOk outcome (KeepsHeld spared name new b)
    → Follows (Leaves spared (Writing name bytes)) a b → Follows (λ before now. LeavesOf spared (Writing name bytes) before outcome now) a b
left_written (Err e) done kept h = h
left_written {spared} {name} {bytes} (Ok x) {old} {new} done kept h = λ left may.
    let r = h left may in (
      r.0,
      r.1,
      (
        r.2,
        λ ours held has.
            elim (writing_ok name bytes spared ours old new done) [
              | inl is ↦ let e = sym has ∙ (kept left may ours ∙ is) in cc
              | inr gone ↦ let e = sym has ∙ (kept left may ours ∙ gone) in cc
            ],
      ),
    )
