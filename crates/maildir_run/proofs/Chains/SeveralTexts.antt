-- What runs over any of several texts, and actions of other programs, leave.
use Rattle.std.proofs.Common.{◌≡◌, ℕ, zero, suc, ◌+◌, ◌<◌, ◌≤◌, ◌^◌, ◌&&◌, ◌⊎◌, max, Bool, true, false, cond, List, [], ◌∷◌, length, get_or}
use Rattle.std.proofs.Common.{count_by, bytes_eq, All, Contains, IsTrue, IsPermutation, Result, Ok, Err, refl, sym, ap, subst, ◌∙◌, inl, inr, arith}
use Rattle.maildir_run.proofs.Common.{list_any, nat_list_eq_equiv, bytes_decides, cases_Bool, false_from_ne_true, All-head, All-tail}
use Rattle.maildir_run.proofs.Common.{All-contains, All-from_get_or, Contains-get_or, list_any_at, count_by-le-length, IsPermutation-refl}
use Rattle.maildir_run.proofs.Common.{IsPermutation-trans, digest_text, numbered, same_digest, RunFault, Report, Files}
use Rattle.maildir_run.proofs.Common.{Action, acted, homes, is_name, Message, IsMissing, IsHome, IsSoundAt, is_base_of, IsRun}
use Rattle.maildir_name.specs.declared.target.Place.TheVariants.{New}
use Rattle.maildir_name.proofs.Digests.{same_digest-refl, same_digest-text}
use Rattle.maildir_name.proofs.BaseLemmas.{numbered-converter}
use Rattle.maildir_run.specs.Several.{Text, IsText, OfEach, is_base_of_any, HoldsGiven, SoundForAll, LinkOver, RanOver, ActedOver}
use Rattle.maildir_run.specs.Several.{LinkedOver, RunsOver, HaveOwnDigests, IsUnknown, count_in, most_delivered, most_tried, StandsAfter}
use Rattle.maildir_run.proofs.Names.Maps.{is_name-refl}
use Rattle.maildir_run.proofs.Chains.Chains.{chain_fold, chain_keeps, chain_at}
use Rattle.maildir_run.proofs.Call.Homes.{acted_kept, spared_named}
use Rattle.maildir_run.proofs.Call.Moves.{homes_none, homes_one}
use Rattle.maildir_run.proofs.Chains.MessageLemmas.{text_named}
use Rattle.maildir_run.proofs.Chains.BaseNumbers.{has_digest_of, with_digest, count-cons, count-taken, text_numbered, text_few}
use Rattle.maildir_run.proofs.Chains.Levels.{Level, Rise, home_level, sound_level, rise}
use Rattle.maildir_run.proofs.Common.{Spared, is_spared, AllSpared}

-- ---- a count of bodies is one of digests
same_test : (b : List ℕ) (m : Message) → (digest_text m.body ≡ digest_text b → m.body ≡ b) → same_digest b m.body ≡ bytes_eq b m.body
same_test b m own =
    elim (cases_Bool (same_digest b m.body)) [
      | inl on ↦ let is = own (sym (same_digest-text b m.body on)) in on ∙ sym (ap (bytes_eq b) is ∙ nat_list_eq_equiv.refl b)
      | inr off ↦ off ∙ sym (false_from_ne_true (bytes_eq b m.body) (λ on.
          let on' : same_digest b m.body ≡ true = ap (same_digest b) (sym ((bytes_decides b m.body).0 on)) ∙ same_digest-refl b in cc))
    ]

counts_alike : {b : List ℕ} (ms : List Message) → All (λ m. digest_text m.body ≡ digest_text b → m.body ≡ b) ms
    → with_digest b ms ≡ count_by (λ m. bytes_eq b m.body) ms
counts_alike [] own = refl
counts_alike {b} (m ∷ ms) own =
    let here = All-head (λ (n : Message). digest_text n.body ≡ digest_text b → n.body ≡ b) m ms own in
    let rest = counts_alike ms (All-tail (λ (n : Message). digest_text n.body ≡ digest_text b → n.body ≡ b) m ms own) in
    count-cons (has_digest_of b) m ms (bytes_eq b m.body) (same_test b m here)
    ∙ ap (λ n. cond (bytes_eq b m.body) 1 0 + n) rest
    ∙ sym (count-cons (λ (n : Message). bytes_eq b n.body) m ms (bytes_eq b m.body) refl)

-- a test that no text passes fails at each
none_at : {X : Type 0} (p : X → Bool) (xs : List X) {x : X} → list_any p xs ≡ false → Contains xs x → p x ≡ false
none_at p xs {x} off (k, below, is) = grind (arith, list_any_at)

-- a message for places past a list's end
nobody : Message
nobody = record { target = record { base = []; place = New; name = [] }; body = [] }

-- one of the texts has this body
pub record IsBodyOf (texts : List Text) (b : List ℕ) : Type 0 where
  pub text : Text
  pub among : Contains texts text
  pub m : Message
  pub inside : Contains text.messages m
  pub is : m.body ≡ b

-- how often a body is there after some links of a chain, where it was there n times before them
pub record Grown (spared : Spared) (links : List LinkOver) (b : List ℕ) (n : ℕ) (s : Files) : Type 0 where
  pub level : Level spared b s
  pub from : n ≤ level.n
  pub at_least : most_delivered b links ≤ level.n
  pub at_most : level.n ≤ max n (most_tried b links)

grown_ran : {spared : Spared} {text : Text} (answer : Result Report RunFault) {links : List LinkOver} {b : List ℕ} {n : ℕ} {mid new : Files}
    (r : Rise spared b (count_in b text) n answer mid) → Grown spared links b r.now new → Grown spared (RanOver text answer ∷ links) b n new
grown_ran (Ok report) r g = record {
  level = g.level;
  from = omega (arith, r.from, g.from);
  at_least = omega (arith, r.done, g.from, g.at_least);
  at_most = omega (arith, r.to, g.at_most);
}
grown_ran (Err fault) r g = record {
  level = g.level;
  from = omega (arith, r.from, g.from);
  at_least = g.at_least;
  at_most = omega (arith, r.to, g.at_most);
}

-- the home of a message holds what a text gives to its base
pub home_given : {texts : List Text} {k : ℕ} (d : Text) → k < length texts → {i : ℕ} (e : Message)
    → i < length (get_or texts k d).messages → {s : Files} → IsSoundAt s (get_or (get_or texts k d).messages i e)
    → IsMissing s (get_or (get_or texts k d).messages i e) ⊎ HoldsGiven texts s (get_or (get_or texts k d).messages i e)
home_given d below e inside (inl none) = inl none
home_given {texts} {k} d below {i} e inside (inr home) =
    let m = get_or (get_or texts k d).messages i e in
    let hit : (is_name m.target.base m.target.base && bytes_eq m.body m.body) ≡ true = rw (is_name-refl m.target.base, nat_list_eq_equiv.refl m.body) refl in
    let inner = list_any_at (λ (n : Message). is_name n.target.base m.target.base && bytes_eq n.body m.body) (get_or texts k d).messages i e inside hit in
    grind (arith, list_any_at)

-- ---- texts whose distinct bodies have distinct digests
-- a text of which a run answered Ok is among those whose counts are taken
delivered_count : (b : List ℕ) (links : List LinkOver) (text : Text) (report : Report)
    → Contains links (RanOver text (Ok report)) → count_in b text ≤ most_delivered b links
delivered_count b [] text report (k, below, is) = absurd (omega (arith, below))
delivered_count b (link ∷ links) text report (zero, below, is) = rw is (omega arith)
delivered_count b (RanOver other (Ok _) ∷ links) text report (suc k, below, is) =
    let before = delivered_count b links text report (k, omega (arith, below), is) in omega (arith, before)
delivered_count b (RanOver other (Err _) ∷ links) text report (suc k, below, is) = delivered_count b links text report (k, omega (arith, below), is)
delivered_count b (ActedOver action ∷ links) text report (suc k, below, is) = delivered_count b links text report (k, omega (arith, below), is)

module _ (spared : Spared) (texts : List Text) (are : All IsText texts) (own : HaveOwnDigests texts) where
  -- each body of the texts is there so often
  abbrev pub AreLevel : Files → Type 0
  AreLevel s = (b : List ℕ) → IsBodyOf texts b → Level spared b s

  module _ (text : Text) (among : Contains texts text) where
    own_in : (b : List ℕ) → IsBodyOf texts b → All (λ m. digest_text m.body ≡ digest_text b → m.body ≡ b) text.messages
    own_in b is =
        All-from_get_or (λ (m : Message). digest_text m.body ≡ digest_text b → m.body ≡ b) text.messages nobody (λ i below e.
        let m = get_or text.messages i nobody in
        let of_m =
        All-contains (λ (x : Text). All (λ (n : Message). OfEach (λ n'. digest_text n.body ≡ digest_text n'.body → n.body ≡ n'.body) texts) x.messages)
        texts text own among i nobody below in
        let of_text = All-contains (λ (x : Text). All (λ (n : Message). digest_text m.body ≡ digest_text n.body → m.body ≡ n.body) x.messages)
        texts is.text of_m is.among in
        All-contains (λ (n : Message). digest_text m.body ≡ digest_text n.body → m.body ≡ n.body)
        is.text.messages is.m of_text is.inside (e ∙ ap digest_text (sym is.is)) ∙ is.is)

    text_at : IsText text
    text_at = All-contains IsText texts text are among

    level_sound_at : (s : Files) → AreLevel s → AllSpared spared (IsSoundAt s) text.messages
    level_sound_at s levels i d below =
        let t = text_at in
        sound_level text.messages (text_numbered text.bytes t.are)
        (text_few text.bytes t.are t.small) (text_named text.bytes text.messages t.are t.small) d below
        (levels (get_or text.messages i d).body
        (record { text = text; among = among; m = get_or text.messages i d; inside = Contains-get_or text.messages i d below; is = refl }))

    ran_rise : (answer : Result Report RunFault) (old new : Files) → AreLevel old → IsRun spared text.bytes old answer new
        → (b : List ℕ) → IsBodyOf texts b → (l : Level spared b old) → Rise spared b (count_in b text) l.n answer new
    ran_rise answer old new levels run b is l =
        let t = text_at in
        let keeps = run.keeps text.messages t.are (level_sound_at old levels) in
        let mine = own_in b is in
        rw (counts_alike text.messages mine) at (rise nobody text.messages b (text_numbered text.bytes t.are)
        (λ i below. mine i nobody below) (text_few text.bytes t.are t.small) old new answer keeps l.n l.there l.small)

    count_small : (b : List ℕ) → count_in b text ≤ 2 ^ 63
    count_small b =
        let t = text_at in
        let most = count_by-le-length (λ (m : Message). bytes_eq b m.body) text.messages in
        let few = text_few text.bytes t.are t.small in
        omega (arith, most, few)

    abbrev rise_level : (answer : Result Report RunFault) (s : Files) (b : List ℕ) (n : ℕ) → n ≤ 2 ^ 63
        → Rise spared b (count_in b text) n answer s → Level spared b s
    rise_level answer s b n small r = record { n = r.now; there = r.there; small = (let to = r.to in let few = count_small b in omega (arith, to, small, few)) }

  abbrev acted_level : (action : Action) (s : Files) (b : List ℕ) → Level spared b s → Level spared b (acted spared action s)
  acted_level action s b l = record {
    n = l.n;
    there = record {
      up_to = λ k lt sp.
          let named = spared_named spared _ sp (numbered-converter b (k + 1) (omega arith) (omega (arith, lt, l.small))) in
          homes_one (numbered b (k + 1)) b s (acted spared action s) (acted_kept spared (numbered b (k + 1)) named action s) (l.there.up_to k lt sp);
      no_other = λ x named digits apart. homes_none x s (acted spared action s) (acted_kept spared x named action s) (l.there.no_other x named digits apart);
    };
    small = l.small;
  }

  ran_levels : (text : Text) → Contains texts text → (answer : Result Report RunFault) (old new : Files)
      → AreLevel old → IsRun spared text.bytes old answer new → AreLevel new
  ran_levels text among answer old new levels run b is =
      rise_level text among answer new b (levels b is).n (levels b is).small (ran_rise text among answer old new levels run b is (levels b is))

  -- ---- what a link leaves, and a chain of them
  linked_levels : (link : LinkOver) (old new : Files) → AreLevel old → LinkedOver spared texts link old new → AreLevel new
  linked_levels (RanOver text answer) old new levels (among, run) = ran_levels text among answer old new levels run
  linked_levels (ActedOver action) old new levels e = subst AreLevel (sym e) (λ b is. acted_level action old b (levels b is))

  -- from here to the chain's end each body has grown
  abbrev Grows : Files → List LinkOver → Files → Type 0
  Grows new links s = AreLevel s → (b : List ℕ) → IsBodyOf texts b → (l : Level spared b s) → Grown spared links b l.n new

  linked_grows : (new : Files) (link : LinkOver) (links : List LinkOver) (old mid : Files)
      → LinkedOver spared texts link old mid → Grows new links mid → Grows new (link ∷ links) old
  linked_grows new (RanOver text answer) links old mid (among, run) rest levels b is l =
      let r = ran_rise text among answer old mid levels run b is l in
      grown_ran answer r
      (rest (ran_levels text among answer old mid levels run) b is (rise_level text among answer mid b l.n l.small r))
  linked_grows new (ActedOver action) links old mid e rest levels b is l =
      let g = subst (Grows new links) e rest (λ x at. acted_level action old x (levels x at)) b is (acted_level action old b l) in
      record { level = g.level; from = g.from; at_least = g.at_least; at_most = g.at_most }

  chain_grown : (links : List LinkOver) (old new : Files) → RunsOver spared texts links old new → Grows new links old
  chain_grown links old new =
      chain_fold (LinkedOver spared texts) (Grows new) new
      (λ levels b is l. record { level = l; from = omega arith; at_least = omega arith; at_most = omega arith }) (linked_grows new) links old

  linked_others : (x : List ℕ) → IsTrue (is_spared spared x) → is_base_of_any texts x ≡ false → (link : LinkOver) (old new : Files)
      → AreLevel old → LinkedOver spared texts link old new → IsPermutation (homes old x) (homes new x)
  linked_others x named off (RanOver text answer) old new levels (among, run) =
      let keeps = run.keeps text.messages (text_at text among).are (level_sound_at text among old levels) in
      keeps.sound.others x named (none_at (λ (y : Text). is_base_of y.messages x) texts off among)
  linked_others x named off (ActedOver action) old new levels e = rw e (acted_kept spared x named action old)

  chain_others : (links : List LinkOver) (old new : Files) → AreLevel old → RunsOver spared texts links old new → (x : List ℕ)
      → IsTrue (is_spared spared x) → is_base_of_any texts x ≡ false → IsPermutation (homes old x) (homes new x)
  chain_others links old new levels runs x named off =
      (chain_keeps (LinkedOver spared texts) (λ s. AreLevel s × IsPermutation (homes old x) (homes s x)) (λ link a b at linked. (
        linked_levels link a b at.0 linked,
        grind (arith, IsPermutation-trans, linked_others),
      )) links old new (levels, IsPermutation-refl _) runs).1

  abbrev levels_at_start : (s : Files) → OfEach (λ m. IsUnknown spared s m.body) texts → AreLevel s
  levels_at_start s unknown b is =
      let of_text = All-contains (λ (x : Text). All (λ (m : Message). IsUnknown spared s m.body) x.messages) texts is.text unknown is.among in
      let of_m = All-contains (λ (m : Message). IsUnknown spared s m.body) is.text.messages is.m of_text is.inside in
      record {
        n = 0;
        there = record {
          up_to = λ k lt. absurd (omega (arith, lt));
          no_other = λ x named digits apart. of_m x named (digits ∙ ap digest_text (sym is.is));
        };
        small = omega arith;
      }

  body_at : (k : ℕ) (d : Text) → k < length texts → (i : ℕ) (e : Message)
      → i < length (get_or texts k d).messages → IsBodyOf texts (get_or (get_or texts k d).messages i e).body
  body_at k d below i e inside = grind (arith, Contains-get_or)

  pub chain_counted : (links : List LinkOver) (old new : Files) → OfEach (λ m. IsUnknown spared old m.body) texts
      → RunsOver spared texts links old new → OfEach (λ m. StandsAfter spared links m.body new) texts
  chain_counted links old new unknown runs k d below i e inside =
      let b = (get_or (get_or texts k d).messages i e).body in
      let is = body_at k d below i e inside in
      let start = levels_at_start old unknown in
      let g = chain_grown links old new runs start b is (levels_at_start old unknown b is) in
      grind arith

  pub chain_whole : (links : List LinkOver) (old new : Files) (text : Text) (report : Report) → OfEach (λ m. IsUnknown spared old m.body) texts
      → RunsOver spared texts links old new → Contains links (RanOver text (Ok report))
      → AllSpared spared (IsHome new) text.messages
  chain_whole links old new text report unknown runs ran i d below sp =
      let ms = text.messages in
      let b = (get_or ms i d).body in
      let among = (chain_at (LinkedOver spared texts) links old new runs ran).2.0 in
      let t = text_at text among in
      let is : IsBodyOf texts b = grind (arith, Contains-get_or) in
      let start = levels_at_start old unknown in
      let g = chain_grown links old new runs start b is (start b is) in
      let count = delivered_count b links text report ran in
      let alike = counts_alike ms (own_in text among b is) in
      let before = count-taken (has_digest_of b) ms i d below (same_digest-refl b) in
      home_level ms (text_numbered _ t.are) d below g.level (omega (arith, count, alike, before, g.at_least)) sp

  pub chain_sound : (links : List LinkOver) (old new : Files) → OfEach (λ m. IsUnknown spared old m.body) texts
      → RunsOver spared texts links old new → SoundForAll spared texts old new
  chain_sound links old new unknown runs =
      let start = levels_at_start old unknown in
      let levels : AreLevel new = λ b is. (chain_grown links old new runs start b is (start b is)).level in
      record {
        own = λ k d below i e inside sp.
            home_given d below e inside (level_sound_at (get_or texts k d) (Contains-get_or texts k d below) new levels i e inside sp);
        others = grind (arith, chain_others);
      }
