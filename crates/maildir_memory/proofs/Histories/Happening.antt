-- The episodes of the history, one after the other.
use Rattle.std.proofs.Common.{◌≡◌, ◌≤◌, ◌⊎◌, ℕ, Bool, true, false, List, [], ◌∷◌, length, get_or, drop, All, Contains, Some, IsTrue}
use Rattle.std.proofs.Common.{codes, refl, sym, ap, subst, ◌∙◌, inl, inr, arith}
use Rattle.std.specs.List.{flat_map}
use Rattle.std.proofs.lemmas.List.Elements.{All-cons, All-head, All-nil}
use Rattle.std.proofs.lemmas.List.Sorted.{IsPermutation-refl}
use Rattle.maildir_run.proofs.Call.Outsiders.{outside_reaches}
use Rattle.maildir_run.proofs.Call.Touching.{touched_same}
use Rattle.maildir_run.proofs.Chains.MessageLemmas.{text_distinct, text_targets}
use Rattle.maildir_run.proofs.Common.{AreDistinct, IsTarget}
use Rattle.maildir_run.proofs.Source.PossibleMessages.{whole_messages}
use Rattle.maildir_run.specs.Cuts.{Came}
use Rattle.maildir_run.specs.Delivery.{AllSpared, IsHome, IsMissing, IsSoundAt, Message}
use Rattle.maildir_run.specs.Files.{Files, KeepsHomes, Outside, Spared, homes}
use Rattle.maildir_run.specs.Files.{no_files}
use Rattle.maildir_run.specs.MemFolder.{IsQuiet}
use Rattle.maildir_run.specs.Several.{IsText, Text}
use Rattle.maildir_run.specs.Texts.{MessagesOf}
use Rattle.maildir_run.specs.declared.report.Report.{Report}
use Rattle.maildir_disk.proofs.Left.LeftHomes.{first_in, none_in}
use Rattle.maildir_disk.specs.PowerCuts.{AreAlike, AreIntact, HasBody, IsIntact}
use Rattle.maildir_commands.specs.Commands.{Delivers, PrintedSafely}
use Rattle.maildir_commands.specs.Episodes.{Commanded, Cut, IsToDeliver, LeadsTo}
use Rattle.maildir_commands.specs.Promise.{IsNewTo, all_whole}
use Rattle.maildir_commands.specs.Machines.{GivesTexts, HasItsMessages, HeldMaildir, IsSafeIn, IsSoundFor, OthersStay, Rests, bytes_of}
use Rattle.maildir_commands.specs.Report.{report_line}
use Rattle.maildir_commands.specs.Words.{convert_words}
use Rattle.maildir_commands.proofs.OneText.{fit_alone}
use Rattle.maildir_commands.proofs.SameMessages.{AreSame, alike_same, all_same, is_placed, of_mailbox, own_alike, placed, safe_same, same_placed, turned}
use Rattle.maildir_memory.specs.Histories.{CanHappen, CanHappenToOne, Delivering, Leads, all_but, seen_machine}
use Rattle.maildir_memory.specs.Plain.{IsNew, held_by, held_plain}
use Rattle.maildir_memory.specs.declared.plain_machine.PlainMachine.{PlainMachine}
use Rattle.maildir_memory.specs.declared.plain_system.PlainSystem.{PlainSystem}
use Rattle.maildir_memory.proofs.Histories.Filled.{filled, filled_home, filled_sound, filled_swept, first_none, no_homes, put_spares, without_first}
use Rattle.maildir_memory.proofs.Histories.Moments.{IsPart, sound_intact, system_as, system_with}

module _ (text : Text) (are : IsText text) where
  same_messages : (ms : List Message) → MessagesOf text.bytes text.messages → MessagesOf text.bytes ms → ms ≡ text.messages
  same_messages ms (inl one) other = whole_messages text.bytes one.0 one.1 other ∙ sym one.2
  same_messages ms (inr none) (inl other) = absurd (none.0 other.0 other.1)
  same_messages ms (inr none) (inr other) = other.1 ∙ sym none.1

  one_text : (other : Text) → IsText other → other.bytes ≡ text.bytes → other ≡ text
  one_text other is same =
      let messages = same_messages other.messages are.are (subst (λ t. MessagesOf t other.messages) same is.are) in
      λ i. record { bytes = same i; messages = messages i }

  -- texts with these bytes are one text, with the same bases and bodies
  only_text : (texts : List Text) → All HasItsMessages texts → bytes_of texts ≡ text.bytes ∷ []
      → (other : Text) × (texts ≡ other ∷ []) × AreSame text.messages other.messages
  only_text [] all same = cc
  only_text (one ∷ []) all same =
      let is = All-head HasItsMessages one [] all in
      let bytes : one.bytes ≡ text.bytes = cc in
      (one, refl, subst (λ (t : Text). AreSame t.messages one.messages) (one_text (placed is) (is_placed is) bytes) (same_placed is))
  only_text (one ∷ other ∷ texts) all same = let longer : 2 ≤ 1 = omega (arith, ap length same) in cc

  of_one : (t : Text) (P : Text → Type 0) → P t → All P (t ∷ [])
  of_one t P h = All-cons P t [] h (All-nil P)

  module _ (gone : Message) (rest : List Message) (first : text.messages ≡ gone ∷ rest) where
    abbrev ms : List Message
    ms = gone ∷ rest

    abbrev all : Files
    all = filled ms

    targets : All (λ m. IsTarget m.target) ms
    targets = subst (λ ms. All (λ m. IsTarget m.target) ms) first (text_targets text.bytes text.messages are.are are.small)

    distinct : AreDistinct ms
    distinct = subst AreDistinct first (text_distinct text.bytes text.messages are.are are.small)

    full : All (IsHome all) text.messages
    full = subst (All (IsHome all)) (sym first) (filled_home ms targets distinct)

    part_sound : (h : HeldMaildir) → IsPart all h → (o : Message) → All (λ m. m.target.base ≡ o.target.base → m.body ≡ o.body) text.messages
        → IsSoundAt h.files o
    part_sound h part o alike = elim (part.within o.target.base) as (λ _. IsSoundAt h.files o) [
      | inl none ↦ inl none
      | inr same ↦ subst (λ s. (s ≡ []) ⊎ (s ≡ o.body ∷ [])) (sym same)
          (filled_sound ms targets distinct o (subst (All (λ m. m.target.base ≡ o.target.base → m.body ≡ o.body)) first alike))
    ]

    part_intact : (spared : Spared) (h : HeldMaildir) → IsPart all h → (o : Message)
        → All (λ m. m.target.base ≡ o.target.base → m.body ≡ o.body) text.messages → (left : Files) → h.may_leave left → IsIntact spared left o
    part_intact spared h part o alike left may =
        subst (λ s. IsIntact spared s o) (sym (part.only left may)) (sound_intact spared h.files o (part_sound h part o alike))

    -- a text with these bases and bodies
    module _ (other : Text) (same : AreSame text.messages other.messages) where
      own : AreAlike other.messages text.messages
      own = all_same same (λ b body. All (λ m. m.target.base ≡ b → m.body ≡ body) text.messages) (own_alike (of_mailbox are))

      part_sound_for : (spared : Spared) (h : HeldMaildir) → IsPart all h → IsSoundFor spared (other ∷ []) h
      part_sound_for spared h part = record {
        sound = of_one other (λ t. AllSpared spared (IsSoundAt h.files) t.messages)
            (λ k d below sp. part_sound h part (get_or other.messages k d) (own k d below));
        intact = of_one other (λ t. AreIntact spared t.messages h.may_leave)
            (λ left may k d below sp. part_intact spared h part (get_or other.messages k d) (own k d below) left may);
      }

    -- ---- the moments
    module _ (start : PlainMachine) (system : PlainSystem) (quiet : IsQuiet system.folder) (is_text : start.text.now ≡ text.bytes) where
      abbrev held : Files → Bool → HeldMaildir
      held s rooted = held_plain (system_with system s rooted)

      abbrev moment : Files → Bool → PlainMachine
      moment s rooted = record start { maildir = Some (system_with system s rooted) }

      left_is : (s : Files) (rooted : Bool) (left : Files) → (held s rooted).may_leave left → left ≡ s
      left_is s rooted left (inl is) = is
      left_is s rooted left (inr is) = is

      part : (s : Files) (rooted : Bool) → ((b : List ℕ) → (homes s b ≡ []) ⊎ (homes s b ≡ homes all b)) → IsPart all (held s rooted)
      part s rooted within = record { within = within; only = left_is s rooted; stays = inl refl }

      all_part : (rooted : Bool) → IsPart all (held all rooted)
      all_part rooted = part all rooted (λ b. inr refl)

      -- ---- from a part to all
      module _ (spared : Spared) (rooted : Bool) (other : Text) (same : AreSame text.messages other.messages) where
        others_stay : (old : HeldMaildir) → IsPart all old → OthersStay spared (other ∷ []) old (held all rooted)
        others_stay old was others named alike =
            let own : AreAlike others text.messages = alike_same (turned same) others (All-head (λ t. AreAlike others t.messages) other [] alike) in
            record {
              sound = λ _ k d below sp. part_sound (held all rooted) (all_part rooted) (get_or others k d) (own k d below);
              intact = λ _ left may k d below sp. part_intact spared (held all rooted) (all_part rooted) (get_or others k d) (own k d below) left may;
              home = λ h k d below sp. let home = h k d below sp in
                  elim (was.within (get_or others k d).target.base) as (λ _. IsHome all (get_or others k d)) [
                    | inl none ↦ let e = sym none ∙ home in cc
                    | inr as_all ↦ sym as_all ∙ home
                  ];
              survive = λ h left may k d below sp.
                  let o = get_or others k d in
                  let has = h old.files was.stays k d below sp in
                  subst (λ s. HasBody s o) (sym (left_is all rooted left may)) (elim (was.within o.target.base) as (λ _. HasBody all o) [
                    | inl none ↦ absurd (none_in (subst (λ hs. Contains hs o.body) none has))
                    | inr as_all ↦ subst (λ hs. Contains hs o.body) as_all has
                  ]);
            }

        safe : IsTrue rooted → IsSafeIn spared (held all rooted) other
        safe found = safe_same same (record {
          home = λ k d below sp. full k d below;
          survive = λ left may k d below sp.
              let o = get_or text.messages k d in
              subst (λ s. HasBody s o) (sym (left_is all rooted left may)) (subst (λ hs. Contains hs o.body) (sym (full k d below)) (first_in []));
          is_rooted = found;
        })

        abbrev Printed : List ℕ → Type 0
        Printed line = PrintedSafely spared (other ∷ []) (Some []) (Some line) (held all rooted)

        brings : (old : HeldMaildir) → IsPart all old → (status : ℕ) (line : List ℕ) → (status ≡ 0 → IsTrue rooted) → (old.rooted → IsTrue rooted)
            → (status ≡ 1 → Printed line) → Delivers spared status (other ∷ []) old (held all rooted) (Some []) (Some line)
        brings old was status line done found printed = record {
          leaves = record {
            sound = part_sound_for other same spared (held all rooted) (all_part rooted);
            safe = λ ok. of_one other (IsSafeIn spared (held all rooted)) (safe (done ok));
            printed = printed;
          };
          swept = λ ok. filled_swept spared ms;
          stay = others_stay old was;
          still_rooted = found;
        }

        printed_none : Printed []
        printed_none = record { reports = []; lines = ([], [], refl, refl); safe = All-nil (IsSafeIn spared (held all rooted)) }

        printed_first : Report → IsTrue rooted → Printed (codes "m")
        printed_first report found = record {
          reports = report ∷ [];
          lines = (codes "m", drop 1 (flat_map report_line (report ∷ [])), refl, refl);
          safe = of_one other (IsSafeIn spared (held all rooted)) (safe found);
        }

      bare : IsPart all (held no_files false)
      bare = part no_files false (λ b. inl (no_homes b))

      -- a command that is to deliver the text ends with this status, and prints this
      abbrev Ends : Spared → ℕ → List ℕ → PlainMachine → PlainMachine → Type 0
      Ends spared status line =
          Commanded spared seen_machine (IsToDeliver (codes "M") (text ∷ []) (text ∷ [])) status (Some []) (Some line)

      -- ---- a command that leaves all of them
      module _ (spared : Spared) (by : List ℕ) (old : PlainMachine) (was : IsPart all (held_by old.maildir)) (given : old.text.now ≡ text.bytes)
          (status : ℕ) (rooted : Bool) (line : List ℕ) (done : status ≡ 0 → IsTrue rooted) (found : (held_by old.maildir).rooted → IsTrue rooted)
          (printed : (spared : Spared) (other : Text) (same : AreSame text.messages other.messages) → status ≡ 1
          → Printed spared rooted other same line) where
        abbrev words : List (List ℕ)
        words = convert_words by (codes "mail" ∷ [])

        abbrev Brings : Spared → List Text → Type 0
        Brings spared texts = Delivers spared status texts (held_by old.maildir) (held all rooted) (Some []) (Some line)

        converts : (spared : Spared) (into : List ℕ) (files : List (List ℕ)) (texts : List Text) → words ≡ convert_words into files
            → GivesTexts (seen_machine old).text_of (Some []) (Some []) files texts → All HasItsMessages texts → Brings spared texts
        converts spared into files texts asked gives have =
            let file : codes "mail" ∷ [] ≡ files = ap (drop 2) asked in
            let bytes : bytes_of texts ≡ old.text.now ∷ [] =
            subst (λ files. GivesTexts (seen_machine old).text_of (Some []) (Some []) files texts) (sym file) gives in
            let (other, one, same) = only_text texts have (bytes ∙ ap (λ b. b ∷ []) given) in
            subst (Brings spared) (sym one)
            (brings spared rooted other same (held_by old.maildir) was status line done found (printed spared other same))

        command : Ends spared status line old (moment all rooted)
        command = record {
          words = words;
          input = Some [];
          rest = Some [];
          did = record {
            delivers = λ spared h into files texts asked gives fit sound. converts spared into files texts asked gives fit.are;
            elsewhere = λ word apart. absurd (apart by (codes "mail" ∷ []) refl tt);
            still_honest = λ spared h ok. quiet;
          };
          asked = (
            by,
            codes "mail" ∷ [],
            refl,
            tt,
            ap (λ b. b ∷ []) (sym given),
            All-cons (Contains (text ∷ [])) text [] (first_in []) (All-nil (Contains (text ∷ []))),
          );
          again = λ one. quiet;
        }

      -- ---- the other episodes
      a_report : Report
      a_report = record { messages = 1; there = 0; placed = 1; swept = 0 }

      module _ (spared : Spared) where
        same_homes : (s : Files) → KeepsHomes spared s s
        same_homes s = record { kept = λ b named. IsPermutation-refl _ }

        cut : (s t : Files) (rooted : Bool) → ((b : List ℕ) → length (homes s b) ≤ 1 → length (homes t b) ≤ 1)
            → (held s rooted).may_leave t ⊎ ((¬ IsTrue rooted) × (t ≡ no_files))
            → LeadsTo spared seen_machine (codes "M") (text ∷ []) Cut (moment s rooted) (moment t rooted)
        cut s t rooted few may = (
          record {
            left = t;
            may = may;
            single = inr (λ b sp. few b);
            is_there = same_homes t;
            stays = λ later may. subst (KeepsHomes spared t) (sym (left_is t rooted later may)) (same_homes t);
            still_rooted = λ rooted. rooted;
          },
          quiet,
        )

        lost : LeadsTo spared seen_machine (codes "M") (text ∷ []) Cut (moment all false) (moment no_files false)
        lost = cut all no_files false (λ b few. let none = ap length (no_homes b) in omega (arith, none)) (inr ((λ rooted. cc), refl))

        none_lost : LeadsTo spared seen_machine (codes "M") (text ∷ []) Cut (moment all true) (moment all true)
        none_lost = cut all all true (λ b few. few) (inl (inl refl))

        breaks_off : Ends spared 1 [] (moment no_files false) (moment all false)
        breaks_off = command spared (codes "M") (moment no_files false) bare is_text 1 false [] (λ ok. cc) (λ rooted. rooted)
            (λ spared other same one. printed_none spared false other same)

        prints : Ends spared 1 (codes "m") (moment no_files false) (moment all true)
        prints = command spared (codes "M") (moment no_files false) bare is_text 1 true (codes "m") (λ ok. refl) (λ rooted. refl)
            (λ spared other same one. printed_first spared true other same a_report refl)

        ends : (by : List ℕ) (s : Files) → IsPart all (held s true)
            → Ends spared 0 (report_line a_report) (moment s true) (moment all true)
        ends by s was = command spared by (moment s true) was is_text 0 true (report_line a_report) (λ ok. refl) (λ rooted. rooted)
            (λ spared other same one. cc)

        new_to : IsNewTo spared (text ∷ []) (held no_files false)
        new_to = record {
          missing = of_one text (λ t. AllSpared spared (IsMissing no_files) t.messages) (λ k d below sp. no_homes _);
          intact = (part_sound_for text (record { bases = refl; bodies = refl }) spared (held no_files false) bare).intact;
        }

      -- ---- the history in which a message is deleted
      module _ (whole : Bool) where
        abbrev spared : Spared
        spared = all_but gone whole

        deletes : Rests spared (held all true) (held (filled rest) true)
        deletes =
            let is = outside_reaches spared all (filled rest)
            (put_spares gone (All-head (λ m. IsTarget m.target) gone rest targets) (filled rest) whole) in
            record {
              actions = Outside (filled rest) ∷ [];
              files_are = sym is;
              left = λ left may. (
                all,
                inl refl,
                record { kept = Came (Outside (filled rest)) ∷ []; are = left_is (filled rest) true left may ∙ sym is; whole = λ is. tt },
              );
              still_rooted = λ rooted. rooted;
              touches = touched_same;
            }

        home : IsHome all gone
        home = All-head (IsHome all) gone rest (filled_home ms targets distinct)

        less : IsPart all (held (filled rest) true)
        less = part (filled rest) true (without_first gone rest targets distinct)

        first_step : Leads text gone whole (Delivering (codes "M") 1 []) (moment no_files false) (moment all false)
        unfolding breaks_off command
        first_step = (breaks_off spared, refl, home)

        printing : Leads text gone whole (Delivering (codes "M") 1 (codes "m")) (moment no_files false) (moment all true)
        unfolding prints command
        printing = (prints spared, refl, home)

        ending : Leads text gone whole (Delivering (codes "M/") 0 (report_line a_report)) (moment (filled rest) true) (moment all true)
        unfolding ends command
        ending = (ends spared (codes "M/") (filled rest) less, refl, home)

        happens : CanHappen text gone whole (moment no_files false)
        happens = record {
          honest = quiet;
          fit = fit_alone text (of_mailbox are);
          is_new = new_to spared;
          line = report_line a_report;
          end = moment all true;
          happens = (
            moment all false,
            first_step,
            (
              moment no_files false,
              (lost spared, no_homes gone.target.base),
              (
                moment all true,
                printing,
                (
                  moment (filled rest) true,
                  ((deletes, λ h. quiet), first_none gone rest targets distinct),
                  (moment all true, ending, (moment all true, (none_lost spared, home), refl)),
                ),
              ),
            ),
          );
        }

      -- ---- and that in which none is
      happens_to_one : CanHappenToOne text (moment no_files false)
      happens_to_one = record {
        honest = quiet;
        is = of_mailbox are;
        is_new = new_to all_whole;
        line = report_line a_report;
        end = moment all true;
        happens = (
          moment all false,
          breaks_off all_whole,
          (
            moment no_files false,
            lost all_whole,
            (
              moment all true,
              prints all_whole,
              (
                moment all true,
                none_lost all_whole,
                (moment all true, ends all_whole (codes "M") all (all_part true), (moment all true, none_lost all_whole, refl)),
              ),
            ),
          ),
        );
      }

      -- ---- from a machine with a new Maildir
      is_moment : IsNew system → start.maildir ≡ Some system → start ≡ moment no_files false
      is_moment new has =
          let made : system ≡ system_with system no_files false = λ i. system_as system (new.empty i) (new.none_kept i) (new.apart i) in
          (λ i. record start { maildir = has i }) ∙ ap (λ s. record start { maildir = Some s }) made

      pub can_happen : (whole : Bool) → IsNew system → start.maildir ≡ Some system → CanHappen text gone whole start
      can_happen whole new has = subst (CanHappen text gone whole) (sym (is_moment new has)) (happens whole)

      pub can_happen_to_one : IsNew system → start.maildir ≡ Some system → CanHappenToOne text start
      can_happen_to_one new has = subst (CanHappenToOne text) (sym (is_moment new has)) happens_to_one
