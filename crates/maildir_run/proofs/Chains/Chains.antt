-- What any list of runs and actions leaves.
use Rattle.std.proofs.Common.{◌≡◌, ℕ, zero, suc, List, [], ◌∷◌, ◌++◌, map, Contains, None, refl, IsTrue, Ok, sym, subst, inl, inr, arith, get_or}
use Rattle.maildir_run.proofs.Common.{get, IsPermutation-refl, IsPermutation-trans, Files, Action, acted, Message}
use Rattle.maildir_run.proofs.Common.{IsMissing, IsSoundAt, AreNamed, Sound, Delivered, Report, MessagesOf, Chain, IsRun, Link, Acted, Linked, Runs}
use Rattle.maildir_run.specs.Runs.{Ran}
use Rattle.maildir_run.proofs.Call.Homes.{acted_kept, spared_named}
use Rattle.maildir_run.proofs.Call.Moves.{homes_none, homes_one, acted_tmp}
use Rattle.maildir_run.proofs.Common.{Spared, is_spared, is_spared_name, AllSpared}

-- ---- any chain
-- what holds of its end holds of each moment from which its links lead there
pub chain_fold : {L S : Type 0} (step : L → S → S → Type 0) (Q : List L → S → Type 0) (new : S)
    → Q [] new → ((link : L) (links : List L) (a b : S) → step link a b → Q links b → Q (link ∷ links) a)
    → (links : List L) (old : S) → Chain step links old new → Q links old
chain_fold step Q new last first [] old e = subst (Q []) e last
chain_fold step Q new last first (link ∷ links) old (mid, linked, rest) = first link links old mid linked (chain_fold step Q new last first links mid rest)

-- what each link keeps
pub chain_keeps : {L S : Type 0} (step : L → S → S → Type 0) (P : S → Type 0) → ((link : L) (a b : S) → P a → step link a b → P b)
    → (links : List L) (old new : S) → P old → Chain step links old new → P new
chain_keeps step P keeps links old new at chain =
    chain_fold step (λ _ s. P s → P new) new (λ p. p) (λ link _ a b linked rest p. rest (keeps link a b p linked)) links old chain at

-- where each link is one of another kind, so is the chain
pub chain_map : {L K S : Type 0} (step : L → S → S → Type 0) (other : K → S → S → Type 0) (f : L → K)
    → ((link : L) (a b : S) → step link a b → other (f link) a b) → (links : List L) (old new : S)
    → Chain step links old new → Chain other (map f links) old new
chain_map step other f each links old new =
    chain_fold step (λ ls s. Chain other (map f ls) s new) new refl (λ link _ a b linked rest. (b, each link a b linked, rest)) links old

-- each of its links leads from one moment to another
pub chain_at : {L S : Type 0} (step : L → S → S → Type 0) {link : L} (links : List L) (old new : S)
    → Chain step links old new → Contains links link → (a : S) × (b : S) × step link a b
chain_at {L} {S} step {link} links old new =
    chain_fold step (λ ls s. Contains ls link → (a : S) × (b : S) × step link a b)
    new (λ (k, below, is). absurd (omega (arith, below))) at_first links old where
      at_first : (l : L) (ls : List L) (a b : S) → step l a b → (Contains ls link → (a : S) × (b : S) × step link a b)
          → Contains (l ∷ ls) link → (a : S) × (b : S) × step link a b
      at_first l ls a b linked rest (zero, below, is) = (a, b, rw is at linked)
      at_first l ls a b linked rest (suc k, below, is) = rest (k, omega (arith, below), is)

-- a chain in two parts
pub chain_parts : {L S : Type 0} (step : L → S → S → Type 0) (xs ys : List L) (old new : S)
    → Chain step (xs ++ ys) old new → (mid : S) × Chain step xs old mid × Chain step ys mid new
chain_parts step [] ys old new chain = (old, refl, chain)
chain_parts step (x ∷ xs) ys old new (next, first, then) = let r = chain_parts step xs ys next new then in (r.0, (next, first, r.1), r.2)

sound_trans : {spared : Spared} {ms : List Message} {a b c : Files} → Sound spared ms a b → Sound spared ms b c → Sound spared ms a c
sound_trans {b} first then = grind (arith, IsPermutation-trans)

sound_at_start : {spared : Spared} {ms : List Message} {s : Files} → AllSpared spared (IsMissing s) ms → Sound spared ms s s
sound_at_start missing = record { own = λ k d h sp. inl (missing k d h sp); others = λ b named off. IsPermutation-refl _ }

acted_sound_at : (spared : Spared) (m : Message) → IsTrue (is_spared spared m.target.base) → (action : Action) (s : Files) → IsSoundAt s m
    → IsSoundAt (acted spared action s) m
acted_sound_at spared m named action s (inl none) =
    inl (homes_none m.target.base s (acted spared action s) (acted_kept spared m.target.base named action s) none)
acted_sound_at spared m named action s (inr one) = grind (arith, homes_one, acted_kept)

pub acted_sound : {spared : Spared} {ms : List Message} → AreNamed ms → {a s : Files} (action : Action) → Sound spared ms a s
    → Sound spared ms a (acted spared action s)
acted_sound {spared} {ms} named {s = s} action sound = record {
  own = λ k d h sp. acted_sound_at spared (get_or ms k d) (spared_named spared _ sp (named k d h)) action s (sound.own k d h sp);
  others = λ b is off. IsPermutation-trans _ _ _ (sound.others b is off) (acted_kept spared b is action s);
}

-- ---- a chain over a text whose messages these are
module _ (spared : Spared) (t : List ℕ) (ms : List Message) (are : MessagesOf t ms) (named : AreNamed ms) where
  linked_sound : (link : Link) (a old new : Files) → Sound spared ms a old → Linked spared t link old new → Sound spared ms a new
  linked_sound (Ran answer) a old new sound run = sound_trans sound (run.keeps ms are sound.own).sound
  linked_sound (Acted action) a old new sound e = subst (Sound spared ms a) (sym e) (acted_sound named action sound)

  pub chain_sound : (links : List Link) (old new : Files) → AllSpared spared (IsMissing old) ms → Runs spared t links old new → Sound spared ms old new
  chain_sound links old new missing runs =
      chain_keeps (Linked spared t) (Sound spared ms old) (λ link a b sound linked. linked_sound link old a b sound linked) links old new
      (sound_at_start missing) runs

  pub chain_delivered : (links : List Link) (old mid new : Files) (report : Report)
      → AllSpared spared (IsMissing old) ms → Runs spared t links old mid → IsRun spared t mid (Ok report) new → Delivered spared ms new
  chain_delivered links old mid new report missing runs last =
      (last.keeps ms are (chain_sound links old mid missing runs).own).ends.delivered

still_swept : (spared : Spared) (name : List ℕ) → IsTrue (is_spared_name spared name) → (action : Action) (s : Files) → get s.tmp name ≡ None
    → get (acted spared action s).tmp name ≡ None
still_swept spared name ours action s h = grind (arith, acted_tmp)

pub acted_delivered : {spared : Spared} {ms : List Message} → AreNamed ms → (action : Action) {s : Files} → Delivered spared ms s
    → Delivered spared ms (acted spared action s)
acted_delivered {spared} {ms} named action {s} all = record {
  homes_are = λ k d h sp.
      let m = get_or ms k d in
      homes_one m.target.base m.body s (acted spared action s)
      (acted_kept spared m.target.base (spared_named spared _ sp (named k d h)) action s) (all.homes_are k d h sp);
  swept = grind (arith, still_swept);
}
