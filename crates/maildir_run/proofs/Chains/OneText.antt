-- For one text, what is said of several is what is said of it.
use Rattle.std.proofs.Common.{◌≡◌, ℕ, zero, suc, ◌<◌, ◌&&◌, ◌⊎◌, true, List, [], ◌∷◌, length, arith}
use Rattle.std.proofs.Common.{get_or, map, bytes_eq, All, Contains, sym, ap, ◌∙◌, inl, inr, arith}
use Rattle.maildir_run.proofs.Common.{bytes_decides, or-false, cases_lt, and_parts, All-from_get_or, Spared, IsSpared}
use Rattle.maildir_run.proofs.Common.{Files, is_name, Message, IsMissing, IsSoundAt, AreDistinct, Sound, Link, Runs}
use Rattle.maildir_run.specs.Several.{Text, IsText, HoldsGiven, SoundForAll, LinkOver, RunsOver, link_over, link_of}
use Rattle.maildir_run.proofs.Chains.Chains.{chain_map}
use Rattle.maildir_run.proofs.Names.Maps.{total}
use Rattle.maildir_run.proofs.Chains.MessageLemmas.{text_distinct}
use Rattle.maildir_run.proofs.Chains.BaseNumbers.{any_at}
use Rattle.maildir_run.proofs.Chains.SeveralTexts.{home_given}

-- messages with one base are one message
same_place : (ms : List Message) → AreDistinct ms → (i j : ℕ) (d : Message) → i < length ms
    → j < length ms → is_name (get_or ms j d).target.base (get_or ms i d).target.base ≡ true → i ≡ j
same_place ms distinct i j d in_i in_j same = grind (arith, cases_lt, total)

-- the text gives to each base the body of its message alone
own_body : {text : Text} → AreDistinct text.messages → {i : ℕ} (d : Message) → i < length text.messages → {s : Files}
    → IsMissing s (get_or text.messages i d) ⊎ HoldsGiven (text ∷ []) s (get_or text.messages i d) → IsSoundAt s (get_or text.messages i d)
own_body distinct d below (inl none) = inl none
own_body {text} distinct {i} d below (inr holds) =
    let ms = text.messages in
    let m = get_or ms i d in
    let a = any_at (λ (n : Message). is_name n.target.base m.target.base && bytes_eq n.body holds.body) ms d (sym (or-false _) ∙ holds.given) in
    let parts = and_parts _ _ a.2 in
    let same : i ≡ a.0 = same_place ms distinct i a.0 d below a.1 parts.0 in
    let body : holds.body ≡ m.body = sym ((bytes_decides (get_or ms a.0 d).body holds.body).0 parts.1) ∙ ap (λ k. (get_or ms k d).body) (sym same) in
    inr (holds.homes_are ∙ ap (λ b. b ∷ []) body)

pub one_sound : {spared : Spared} {text : Text} {old new : Files} → IsText text → SoundForAll spared (text ∷ []) old new
    → Sound spared text.messages old new
one_sound {text = text} is sound = record {
  own = λ i d below sp. own_body (text_distinct text.bytes text.messages is.are is.small) d below (sound.own zero text (omega arith) i d below sp);
  others = grind arith;
}

one_place : {spared : Spared} {text : Text} {old new : Files} → Sound spared text.messages old new → (k : ℕ) → k < length (text ∷ [])
    → All (λ (m : Message). IsSpared spared m → IsMissing new m ⊎ HoldsGiven (text ∷ []) new m) (get_or (text ∷ []) k text).messages
one_place {text = text} sound zero below = λ i e inside sp. home_given text below e inside (sound.own i e inside sp)
one_place sound (suc k) below = absurd (omega (arith, below))

pub sound_one : {spared : Spared} {text : Text} {old new : Files} → Sound spared text.messages old new → SoundForAll spared (text ∷ []) old new
sound_one {spared} {text} {new = new} sound = record {
  own =
      All-from_get_or (λ (x : Text). All (λ (m : Message). IsSpared spared m → IsMissing new m ⊎ HoldsGiven (text ∷ []) new m) x.messages)
      (text ∷ []) text (one_place sound);
  others = grind arith;
}

-- ---- chains
only_one : (text other : Text) → Contains (text ∷ []) other → other ≡ text
only_one text other h = grind arith

pub one_runs : (spared : Spared) (text : Text) (links : List LinkOver) (old new : Files) → RunsOver spared (text ∷ []) links old new
    → Runs spared text.bytes (map link_of links) old new
one_runs spared text = grind (arith, chain_map)

pub runs_one : (spared : Spared) (text : Text) (links : List Link) (old new : Files)
    → Runs spared text.bytes links old new → RunsOver spared (text ∷ []) (map (link_over text) links) old new
runs_one spared text = grind (arith, chain_map)
