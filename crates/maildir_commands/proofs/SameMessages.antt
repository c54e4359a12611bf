-- Messages that differ at most in their places and names: what is said of bases and bodies holds of both.
use Rattle.std.proofs.Common.{◌≡◌, ℕ, ◌+◌, ◌-◌, ◌<◌, ◌≤◌, ◌⊎◌, ◌||◌, Bool, cond, List, [], ◌∷◌, ◌++◌, length, get_or, take, map, count_by}
use Rattle.std.proofs.Common.{All, Contains, IsTrue, refl, sym, ap, subst, ◌∙◌, inl, inr, arith}
use Rattle.std.proofs.lemmas.List.{same_lists, take-map}
use Rattle.std.specs.List.{list_any}
use Rattle.mbox_text.specs.declared.entry.Entry.{Entry}
use Rattle.mbox_text.specs.Mbox.{IsUnreadable, Mbox}
use Rattle.maildir_name.specs.Names.{is_converter_base}
use Rattle.maildir_name.specs.Targets.{numbered, same_digest, target}
use Rattle.maildir_run.proofs.Chains.BaseNumbers.{AreNumbered, count-cons, text_numbered}
use Rattle.maildir_run.proofs.Chains.MessageLemmas.{text_distinct, text_named}
use Rattle.maildir_run.proofs.Run.Batches.{all_messages, no_messages}
use Rattle.maildir_run.specs.Delivery.{Message, AllSpared, AreNamed, IsSoundAt, has_home, there_count}
use Rattle.maildir_run.specs.Files.{Files, Spared, homes, is_name}
use Rattle.maildir_run.specs.Private.Parts.{messages_after}
use Rattle.maildir_run.specs.Several.{IsText, Text}
use Rattle.maildir_run.specs.Texts.{MessagesOf, bodies_of, messages_of}
use Rattle.maildir_disk.proofs.Left.LeftTasks.{own_bodies}
use Rattle.maildir_commands.proofs.Common.{AreAlike, AreIntact, AreSafe, Bytes, HasAlso, HeldMaildir, Possible, Report, ReportsMessages}
use Rattle.maildir_commands.proofs.Common.{get_or-map, length-map}
use Rattle.maildir_commands.specs.Machines.{HasItsMessages}
use Rattle.maildir_commands.specs.Sources.{KeepsText, StoresText}

abbrev base_of : Message → List ℕ
base_of m = m.target.base

abbrev pub body_of : Message → List ℕ
body_of m = m.body

abbrev no_message : Message
no_message = record { target = target [] []; body = [] }

-- The messages have the same bases and bodies, in order.
pub record AreSame (ms ns : List Message) : Type 0 where
  pub bases : map base_of ms ≡ map base_of ns
  pub bodies : map body_of ms ≡ map body_of ns

pub turned : {ms ns : List Message} → AreSame ms ns → AreSame ns ms
turned same = record { bases = sym same.bases; bodies = sym same.bodies }

-- ---- lists of which a function makes the same
count_made : (f : Message → List ℕ) (p : List ℕ → Bool) (ms : List Message) → count_by p (map f ms) ≡ count_by (λ m. p (f m)) ms
count_made f p [] = refl
count_made f p (m ∷ ms) =
    count-cons p (f m) (map f ms) (p (f m)) refl
    ∙ (ap (λ n. cond (p (f m)) 1 0 + n) (count_made f p ms) ∙ sym (count-cons (λ n. p (f n)) m ms (p (f m)) refl))

any_made : (f : Message → List ℕ) (p : List ℕ → Bool) (ms : List Message) → list_any p (map f ms) ≡ list_any (λ m. p (f m)) ms
any_made f p [] = refl
any_made f p (m ∷ ms) = ap (λ x. p (f m) || x) (any_made f p ms)

module _ (f : Message → List ℕ) (ms ns : List Message) (same : map f ms ≡ map f ns) where
  as_many : length ms ≡ length ns
  as_many = sym (length-map ms f) ∙ (ap length same ∙ length-map ns f)

  at_each : (k : ℕ) (d : Message) → k < length ns → f (get_or ms k d) ≡ f (get_or ns k d)
  at_each k d below =
      sym (get_or-map f ms k d (f d) (omega (arith, as_many, below))) ∙ (ap (λ xs. get_or xs k (f d)) same ∙ get_or-map f ns k d (f d) below)

  counted : (p : List ℕ → Bool) → count_by (λ m. p (f m)) ms ≡ count_by (λ m. p (f m)) ns
  counted p = sym (count_made f p ms) ∙ (ap (count_by p) same ∙ count_made f p ns)

  any_alike : (p : List ℕ → Bool) → list_any (λ m. p (f m)) ms ≡ list_any (λ m. p (f m)) ns
  any_alike p = sym (any_made f p ms) ∙ (ap (list_any p) same ∙ any_made f p ns)

-- ---- what holds of messages with these bases and bodies
module _ {ms ns : List Message} (same : AreSame ms ns) where
  pub all_same : (P : List ℕ → List ℕ → Type 0) → All (λ m. P m.target.base m.body) ms → All (λ m. P m.target.base m.body) ns
  all_same P all k d below =
      subst (λ b. P b (get_or ns k d).body) (at_each base_of ms ns same.bases k d below)
      (subst (P (get_or ms k d).target.base) (at_each body_of ms ns same.bodies k d below) (all k d (omega (arith, below, as_many base_of ms ns same.bases))))

  pub sound_same : (spared : Spared) (s : Files) → AllSpared spared (IsSoundAt s) ms → AllSpared spared (IsSoundAt s) ns
  sound_same spared s = all_same (λ b body. IsTrue (spared.bases b) → (homes s b ≡ []) ⊎ (homes s b ≡ body ∷ []))

  pub alike_same : (others : List Message) → AreAlike others ms → AreAlike others ns
  alike_same others alike k d below =
      all_same (λ b body. b ≡ (get_or others k d).target.base → body ≡ (get_or others k d).body) (alike k d below)

  pub intact_same : (spared : Spared) (may_leave : Files → Type 0) → AreIntact spared ms may_leave → AreIntact spared ns may_leave
  intact_same spared may_leave intact left may =
      let all = all_same (λ b body. IsTrue (spared.bases b)
      → ((bytes : List ℕ) → Contains (homes left b) bytes → bytes ≡ body) × (IsTrue spared.whole → length (homes left b) ≤ 1))
      (λ k d below sp. let is = intact left may k d below sp in (is.holds, is.once)) in
      λ k d below sp. let is = all k d below sp in record { holds = is.0; once = is.1 }

  pub safe_same : {spared : Spared} {s : Files} {may_leave : Files → Type 0} {rooted : Type 0} → AreSafe spared ms s may_leave rooted
      → AreSafe spared ns s may_leave rooted
  safe_same {spared} {s} safe = record {
    home = all_same (λ b body. IsTrue (spared.bases b) → homes s b ≡ body ∷ []) safe.home;
    survive = λ left may. all_same (λ b body. IsTrue (spared.bases b) → Contains (homes left b) body) (safe.survive left may);
    is_rooted = safe.is_rooted;
  }

module _ {ms ns : List Message} (same : AreSame ms ns) where
  reports_same : (spared : Spared) (s : Files) (report : Report) → ReportsMessages spared ms s report → ReportsMessages spared ns s report
  reports_same spared s report is =
      let many = as_many base_of ms ns same.bases in
      let there = counted base_of ms ns same.bases (has_home s) in
      let back = all_same (turned same) (λ b body. IsTrue (spared.bases b)) in
      record {
        messages = is.messages ∙ many;
        there = λ all. is.there (back all) ∙ there;
        placed = λ all. is.placed (back all) ∙ (ap (λ n. n - there_count (has_home s) ms) many ∙ ap (λ n. length ns - n) there);
        swept = is.swept;
      }

  also_same : (spared : Spared) (old new : Files) → HasAlso spared ms old new → HasAlso spared ns old new
  also_same spared old new has b sp = has b sp ∙ ap (λ is. is || has_home old b) (any_alike base_of ms ns same.bases (λ c. is_name c b))

module _ {one other : Text} (same : AreSame one.messages other.messages) {spared : Spared} {old new : HeldMaildir} where
  pub keeps_same : KeepsText spared one old new → KeepsText spared other old new
  keeps_same keeps = record {
    intact = λ was. intact_same same spared _ (keeps.intact (intact_same (turned same) spared _ was));
    still = λ others named alike. keeps.still others named (alike_same (turned same) others alike);
    stays = λ sound others named alike.
        keeps.stays (sound_same (turned same) spared old.files sound) others named (alike_same (turned same) others alike);
  }

  pub stores_same : {report : Report} → (AllSpared spared (IsSoundAt old.files) one.messages → StoresText spared report one old new)
      → AllSpared spared (IsSoundAt old.files) other.messages → StoresText spared report other old new
  stores_same stored sound =
      let stores = stored (sound_same (turned same) spared old.files sound) in
      record {
        reports = reports_same same spared old.files _ stores.reports;
        known = also_same same spared old.files new.files stores.known;
        swept = stores.swept;
        safe = λ was. safe_same same (stores.safe (intact_same (turned same) spared _ was));
      }

-- ---- the messages of a text at its targets
-- the messages of some bodies have these
bodies_after : (before bodies : List (List ℕ)) → map body_of (messages_after before bodies) ≡ bodies
bodies_after before [] = refl
bodies_after before (body ∷ more) = ap (λ xs. body ∷ xs) (bodies_after (before ++ body ∷ []) more)

have_bodies : (bodies : List (List ℕ)) → map body_of (messages_of bodies) ≡ bodies
have_bodies bodies = ap (map body_of) (sym (all_messages bodies)) ∙ bodies_after [] bodies

-- numbered messages with the same bodies have the same bases
pub bases_same : (ms ns : List Message) → map body_of ms ≡ map body_of ns → AreNumbered ms → AreNumbered ns → map base_of ms ≡ map base_of ns
bases_same ms ns same one other =
    same_lists _ _ (length-map ms base_of ∙ (as_many body_of ms ns same ∙ sym (length-map ns base_of))) (λ k d below.
    let inside : k < length ms = omega (arith, below, length-map ms base_of) in
    let there : k < length ns = omega (arith, inside, as_many body_of ms ns same) in
    let first = sym (take-map body_of k ms) ∙ (ap (take k) same ∙ take-map body_of k ns) in
    get_or-map base_of ms k no_message d inside
    ∙ (one k no_message inside
    ∙ (ap (λ b. numbered b (count_by (λ n. same_digest b n.body) (take k ms) + 1)) (at_each body_of ms ns same k no_message there)
    ∙ (ap (λ n. numbered (get_or ns k no_message).body (n + 1)) (counted body_of (take k ms) (take k ns) first (same_digest (get_or ns k no_message).body))
    ∙ (sym (other k no_message there) ∙ sym (get_or-map base_of ns k no_message d there))))))

pub of_mailbox : {text : Text} → IsText text → HasItsMessages text
of_mailbox {text} is = record {
  bodies = elim is.are as (λ _. ((entries : List Entry) × Mbox text.bytes entries × (map body_of text.messages ≡ bodies_of entries))
      ⊎ (IsUnreadable text.bytes × (text.messages ≡ []))) [
        | inl (entries, reads, same) ↦ inl (entries, reads, ap (map body_of) same ∙ have_bodies (bodies_of entries))
        | inr none ↦ inr none
      ];
  bases = text_numbered text.bytes is.are;
  small = is.small;
}

module _ {text : Text} (is : HasItsMessages text) where
  abbrev pub placed : Text
  placed = record { bytes = text.bytes; messages = messages_of (map body_of text.messages) }

  placed_are : MessagesOf text.bytes placed.messages
  placed_are = elim is.bodies as (λ _. MessagesOf text.bytes placed.messages) [
    | inl (entries, reads, same) ↦ inl (entries, reads, ap messages_of same)
    | inr (none, empty) ↦ inr (none, ap (λ ms. messages_of (map body_of ms)) empty ∙ no_messages)
  ]

  pub is_placed : IsText placed
  is_placed = record { are = placed_are; small = is.small }

  pub same_placed : AreSame placed.messages text.messages
  same_placed =
      let bodies = have_bodies (map body_of text.messages) in
      record { bases = bases_same _ _ bodies (text_numbered text.bytes placed_are) is.bases; bodies = bodies }

  pub named_of : AreNamed text.messages
  named_of = all_same same_placed (λ b body. IsTrue (is_converter_base b)) (text_named text.bytes _ placed_are is.small)

  pub own_alike : AreAlike text.messages text.messages
  own_alike =
      all_same same_placed (λ b body. All (λ n. n.target.base ≡ b → n.body ≡ body) text.messages)
      (alike_same same_placed _ (own_bodies _ (text_distinct text.bytes _ placed_are is.small)))

-- what is so of each text whose messages are at their targets is so of each text
pub of_each : {before after : Bytes} {P : Text → Type 0} → ((one other : Text) → AreSame one.messages other.messages → P one → P other)
    → ((text : Text) → IsText text → Possible before after text.bytes → P text)
    → (text : Text) → HasItsMessages text → Possible before after text.bytes → P text
of_each carries each text is possible = carries (placed is) text (same_placed is) (each (placed is) (is_placed is) possible)
