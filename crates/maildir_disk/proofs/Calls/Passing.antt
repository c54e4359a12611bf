-- Consequences of what is assumed of a system.
use Rattle.std.proofs.Common.{◌≡◌, inl, inr, ℕ, ◌+◌, ◌≤◌, ◌<◌, List, [], ◌∷◌, ◌++◌, map, append_assoc, refl, sym, ◌∙◌, ap}
use Rattle.std.proofs.Common.{subst, arith, IsPermutation, rules}
use Rattle.maildir_disk.proofs.Common.{keys, Sub, Files, Action, acted, all_acted, Call, Listing, Move, Other, Again, after, folder_of, IsWhole, Lists}
use Rattle.maildir_disk.proofs.Common.{AnyMoves, IsSettled, IsFarAhead, World, margin_of, IsOfChange, Acts, Passes, IsStampWithin, ReadsNames, Spared}
use Rattle.maildir_disk.specs.Private.OneMoment.{Watched}
use Rattle.maildir_run.proofs.Call.Moves.{after-append}

pub all_acted-append : (spared : Spared) (xs ys : List Action) (s : Files) → all_acted spared (xs ++ ys) s ≡ all_acted spared ys (all_acted spared xs s)
all_acted-append spared [] ys s = refl
all_acted-append spared (a ∷ xs) ys s = all_acted-append spared xs ys (acted spared a s)

-- moves of other programs alone
pub after-others : (spared : Spared) (xs : List Action) (call : Call) (s : Files) → after spared s call (map Other xs) ≡ all_acted spared xs s
after-others spared [] call s = refl
after-others spared (a ∷ xs) call s = after-others spared xs call (acted spared a s)

pub others_whole : (xs : List Action) → IsWhole (map Other xs)
others_whole [] = tt
others_whole (a ∷ xs) = others_whole xs

-- no other program acts, or some act and then others
pub acts_none : {spared : Spared} {a : World} → Acts spared a a
acts_none = grind arith

pub acts_on : {spared : Spared} {a b c : World} → Acts spared a b → Acts spared b c → Acts spared a c
acts_on {spared} {a} p q = grind (arith, all_acted-append spared p.actions q.actions a.files)

-- no time passes
pub passes_none : {spared : Spared} {sub : Sub} {a : World} → Passes spared sub a a
passes_none = search (rules, acts_none)

-- the stamp of a change within a part of an interval is that of a change within the interval
pub longer : {s t u v stamp : ℕ} → s ≤ t → u ≤ v → IsOfChange t u stamp → IsOfChange s v stamp
longer before after change = grind arith

pub passes_on : {spared : Spared} {sub : Sub} {a b c : World} → Passes spared sub a b → Passes spared sub b c → Passes spared sub a c
passes_on {a} {c} p q = grind (arith, acts_on, longer)

-- a call of the folder that failed, in which only other programs acted
pub acts_failed : {spared : Spared} {call : Call} {a b : World} → Acts spared a b → AnyMoves spared call a.files b.files
acts_failed {spared} {call} {a} acts = grind (arith, after-others spared acts.actions call a.files)

-- the names of one moment
pub lists_at : {spared : Spared} {sub : Sub} {a b c : World} {names : List (List ℕ)} → Acts spared a b → Acts spared b c
    → IsPermutation names (keys (folder_of sub b.files)) → Lists spared sub a.files names c.files
lists_at {spared} {sub} {a} {b} {names} p q are =
    let before = map Other p.actions in
    let rest = map Other q.actions in
    let at : b.files ≡ after spared a.files (Listing sub) before = p.files_are ∙ sym (after-others spared p.actions (Listing sub) a.files) in
    let call = Listing sub in
    record {
      before = before;
      rest = rest;
      whole_before = others_whole p.actions;
      whole = others_whole q.actions;
      names_are = subst (λ s. IsPermutation names (keys (folder_of sub s))) at are;
      left =
          q.files_are ∙ (sym (after-others spared q.actions call b.files) ∙
          (ap (λ s. after spared s call rest) at ∙ sym (after-append spared a.files call before (Again ∷ rest))));
    }

-- the names of one moment of a later part of the call
others_first : (spared : Spared) (xs : List Action) (call : Call) (ns : List Move) (a : Files) {b : Files}
    → b ≡ all_acted spared xs a → after spared a call (map Other xs ++ ns) ≡ after spared b call ns
others_first spared xs call ns a e = grind (arith, after-append, after-others)

others_then_whole : (xs : List Action) (ns : List Move) → IsWhole ns → IsWhole (map Other xs ++ ns)
others_then_whole [] ns whole = whole
others_then_whole (a ∷ xs) ns whole = others_then_whole xs ns whole

pub lists_later : {spared : Spared} {sub : Sub} {a b : World} {end : Files} {names : List (List ℕ)} → Acts spared a b → Lists spared sub b.files names end
    → Lists spared sub a.files names end
lists_later {spared} {sub} {a} {names} p lists =
    let call = Listing sub in
    let others = map Other p.actions in
    record {
      before = others ++ lists.before;
      rest = lists.rest;
      whole_before = others_then_whole p.actions _ lists.whole_before;
      whole = lists.whole;
      names_are =
          subst (λ s. IsPermutation names (keys (folder_of sub s))) (sym (others_first spared p.actions call lists.before a.files p.files_are)) lists.names_are;
      left =
          lists.left ∙ (sym (others_first spared p.actions call (lists.before ++ Again ∷ lists.rest) a.files p.files_are)
          ∙ ap (after spared a.files call) (sym (append_assoc others lists.before (Again ∷ lists.rest))));
    }

-- names that were read, and the folder's stamp after them
pub watched : {spared : Spared} {sub : Sub} {b c d : World} {names : List (List ℕ)} {stamp : ℕ} → Passes spared sub b c
    → Passes spared sub c d → ReadsNames sub b names c → IsStampWithin spared sub c stamp d → Watched spared sub stamp b names d
watched p q (inl exact) tells = record { acts = acts_on p.acts q.acts; are = inl exact }
watched {sub} {b} {c} {d} {stamp} p q (inr change) tells = grind (arith, longer, acts_on)

-- the names are exact if the stamp had settled before they were read
pub exact_if_settled : {spared : Spared} {sub : Sub} {b d : World} {names : List (List ℕ)} {now stamp : ℕ} → IsSettled stamp now
    → now ≤ b.time → Watched spared sub stamp b names d → IsPermutation names (keys (folder_of sub b.files))
exact_if_settled settled le w = grind arith

-- the names are exact if the stamp is far ahead of the clock after they were read
pub exact_if_ahead : {spared : Spared} {sub : Sub} {b d : World} {names : List (List ℕ)} {later stamp : ℕ} → IsFarAhead stamp later
    → d.time ≤ later → Watched spared sub stamp b names d → IsPermutation names (keys (folder_of sub b.files))
exact_if_ahead ahead le w = grind arith

pub within : (time : ℕ) → time < time + margin_of time
within time = grind arith
