-- Which bases have a home, from one moment to another.
use Rattle.std.proofs.Common.{◌≡◌, ℕ, ◌+◌, ◌-◌, ◌≤◌, ◌||◌, Bool, cond, List, [], ◌∷◌, ◌++◌, length, All, IsTrue, None, Ok, count_by}
use Rattle.std.proofs.Common.{refl, sym, ap, subst, ◌∙◌, inl, inr, arith}
use Rattle.std.proofs.lemmas.List.Folds.{Any-from_list_any}
use Rattle.maildir_commands.proofs.Common.{Action, Acts, All-head, All-tail, AreReportsOf, Files, HasAlso, HeldMaildir, IsReportOf, Text, Report}
use Rattle.maildir_commands.proofs.Common.{Rests, World, acted, all_acted, also, cases_Bool, get, is_name}
use Rattle.maildir_name.specs.Names.{is_converter_base, is_converter_name}
use Rattle.maildir_run.specs.Delivery.{Message, AreNamed, IsHome, IsSwept, has_home, is_any, is_base_of, leftover_count}
use Rattle.maildir_run.specs.Runs.{KeepsMessages}
use Rattle.maildir_run.proofs.Call.Homes.{acted_kept}
use Rattle.maildir_run.proofs.Call.Leftovers.{leftovers, leftovers_are, all_names}
use Rattle.maildir_run.proofs.Call.Moves.{acted_tmp}
use Rattle.maildir_run.proofs.Common.{empty, get-empty, len, len-empty, name_cmp, retain_keys, same_map, and_parts}
use Rattle.maildir_run.proofs.Names.Maps.{get_under, is_name-true, same, total}
use Rattle.maildir_run.proofs.Chains.BaseNumbers.{count-cons}
use Rattle.maildir_run.proofs.Tasks.Progress.{any_kept}
use Rattle.maildir_commands.proofs.Common.{IsSpared, Spared, SparesAll, is_spared, spared_named}

-- ---- other programs take and bring no base
acted_has : (spared : Spared) (b : List ℕ) → IsTrue (is_spared spared b) → (actions : List Action) (s : Files)
    → has_home (all_acted spared actions s) b ≡ has_home s b
acted_has spared b named [] s = refl
acted_has spared b named (action ∷ actions) s =
    acted_has spared b named actions (acted spared action s) ∙ sym (any_kept _ _ (acted_kept spared b named action s))

-- the same bases that are spared
abbrev pub Agree : Spared → (List ℕ → Bool) → (List ℕ → Bool) → Type 0
Agree spared has had = (b : List ℕ) → IsTrue (is_spared spared b) → has b ≡ had b

pub rests_has : {spared : Spared} {old new : HeldMaildir} → Rests spared old new → Agree spared (has_home new.files) (has_home old.files)
rests_has {spared} {old} rests b named = ap (λ s. has_home s b) rests.files_are ∙ acted_has spared b named rests.actions old.files

-- ---- a run, and a sync
run_has : {spared : Spared} {ms : List Message} {old new : Files} {report : Report} → KeepsMessages spared ms old (Ok report) new → HasAlso spared ms old new
run_has {spared} {ms} {old} {new} keeps b named =
    elim (cases_Bool (is_base_of ms b)) as (λ _. has_home new b ≡ (is_base_of ms b || has_home old b)) [
      | inr off ↦ sym (any_kept _ _ (keeps.sound.others b named off)) ∙ ap (λ x. x || has_home old b) (sym off)
      | inl on ↦
          let found = Any-from_list_any (λ (n : Message). is_name n.target.base b) ms on in
          let home = subst (λ (n : Message). IsSpared spared n → IsHome new n) found.3 (keeps.ends.delivered.homes_are found.0 found.1 found.2)
          (ap spared.bases (is_name-true _ b found.4) ∙ (and_parts _ _ named).0) in
          ap (has_home new) (sym (is_name-true _ b found.4)) ∙ (ap is_any home ∙ ap (λ x. x || has_home old b) (sym on))
    ]

pub both_have : {spared : Spared} {ms : List Message} {old : Files} {mid new : World} {report : Report}
    → KeepsMessages spared ms old (Ok report) mid.files → Acts spared mid new → HasAlso spared ms old new.files
both_have {spared} {ms} {old} {mid} {report} keeps acts b named =
    (ap (λ s. has_home s b) acts.files_are ∙ acted_has spared b named acts.actions mid.files) ∙ run_has keeps b named

-- ---- reports
count_agree : (spared : Spared) {has had : List ℕ → Bool} → Agree spared has had → (ms : List Message) → AreNamed ms → All (IsSpared spared) ms
    → count_by (λ (m : Message). has m.target.base) ms ≡ count_by (λ (m : Message). had m.target.base) ms
count_agree spared agree [] named all = refl
count_agree spared {has} {had} agree (m ∷ ms) named all =
    let first : IsTrue (is_converter_base m.target.base) = All-head (λ (n : Message). IsTrue (is_converter_base n.target.base)) m ms named in
    let rest = All-tail (λ (n : Message). IsTrue (is_converter_base n.target.base)) m ms named in
    let here = spared_named spared m.target.base (All-head (IsSpared spared) m ms all) first in
    count-cons (λ (n : Message). has n.target.base) m ms (had m.target.base) (agree m.target.base here)
    ∙ (ap (λ k. cond (had m.target.base) 1 0 + k) (count_agree spared agree ms rest (All-tail (IsSpared spared) m ms all))
    ∙ sym (count-cons (λ (n : Message). had n.target.base) m ms (had m.target.base) refl))

pub report_agree : (spared : Spared) {has had : List ℕ → Bool} → Agree spared has had → {left most : ℕ} → (SparesAll spared → left ≤ most) → {ms : List Message}
    → AreNamed ms → {report : Report} → IsReportOf spared had left ms report → IsReportOf spared has most ms report
report_agree spared {has} {had} agree {left} {most} few {ms} named {report} is =
    let same = count_agree spared agree _ named in
    record {
      messages = is.messages;
      there = λ all. subst (λ k. report.there ≡ k) (sym (same all)) (is.there all);
      placed = λ all. subst (λ k. report.placed ≡ length ms - k) (sym (same all)) (is.placed all);
      swept = λ all. omega (arith, is.swept all, few all);
    }

pub also_agree : (spared : Spared) (has had : List ℕ → Bool) → Agree spared has had → (text : Text) → Agree spared (also has text) (also had text)
also_agree spared has had agree text b named = ap (λ x. is_base_of text.messages b || x) (agree b named)

pub reports_agree : (spared : Spared) (has had : List ℕ → Bool) → Agree spared has had → (left most : ℕ) → (SparesAll spared → left ≤ most)
    → (texts : List Text) → All (λ text. AreNamed text.messages) texts
    → (reports : List Report) → AreReportsOf spared had left texts reports → AreReportsOf spared has most texts reports
reports_agree spared has had agree left most few [] named [] is = tt
reports_agree spared has had agree left most few [] named (report ∷ reports) is = absurd is
reports_agree spared has had agree left most few (text ∷ texts) named [] is = absurd is
reports_agree spared has had agree left most few (text ∷ texts) named (report ∷ reports) (first, rest) = (
  report_agree spared agree few (All-head (λ (t : Text). AreNamed t.messages) text texts named) first,
  reports_agree spared (also has text) (also had text) (also_agree spared has had agree text) 0 0 (λ all. omega arith) texts
      (All-tail (λ (t : Text). AreNamed t.messages) text texts named) reports rest,
)

-- which bases have a home once texts were delivered
abbrev pub also_all : (List ℕ → Bool) → List Text → List ℕ → Bool
also_all has [] = has
also_all has (text ∷ texts) = also_all (also has text) texts

pub also_all-last : (has : List ℕ → Bool) (texts : List Text) (text : Text) → also_all has (texts ++ text ∷ []) ≡ also (also_all has texts) text
also_all-last has [] text = refl
also_all-last has (first ∷ texts) text = also_all-last (also has first) texts text

-- how many leftovers there may be once texts were delivered
abbrev pub left_after : ℕ → List Text → ℕ
left_after left [] = left
left_after left (text ∷ texts) = 0

none_after : (texts : List Text) → left_after 0 texts ≡ 0
none_after [] = refl
none_after (text ∷ texts) = refl

pub reports_more : (spared : Spared) (has : List ℕ → Bool) (left : ℕ) (texts : List Text) (reports : List Report) (text : Text) {report : Report}
    → AreReportsOf spared has left texts reports → IsReportOf spared (also_all has texts) (left_after left texts) text.messages report
    → AreReportsOf spared has left (texts ++ text ∷ []) (reports ++ report ∷ [])
reports_more spared has left [] [] text before is = (is, tt)
reports_more spared has left [] (other ∷ reports) text before is = absurd before
reports_more spared has left (first ∷ texts) [] text before is = absurd before
reports_more spared has left (first ∷ texts) (other ∷ reports) text {report} (one, rest) is = (
  one,
  reports_more spared (also has first) 0 texts reports text rest
      (subst (λ n. IsReportOf spared (also_all (also has first) texts) n text.messages report) (sym (none_after texts)) is),
)

-- ---- leftovers: other programs bring none
pub swept_none : (spared : Spared) → SparesAll spared → (s : Files) → IsSwept spared s → leftover_count s ≡ 0
swept_none spared all s gone =
    let none : retain_keys s.tmp is_converter_name ≡ empty =
    same_map total same _ _ (λ q. grind (arith, get_under, gone q, all_names spared all q, get-empty {X = List ℕ} name_cmp q)) in
    leftovers_are s.tmp ∙ ap len none ∙ len-empty name_cmp (List ℕ)

few_left : (spared : Spared) → SparesAll spared → (actions : List Action) (s : Files) → leftover_count (all_acted spared actions s) ≤ leftover_count s
few_left spared all [] s = omega arith
few_left spared all (action ∷ actions) s =
    let first = leftovers spared all action s in
    let rest = few_left spared all actions (acted spared action s) in
    omega (arith, first, rest)

pub rests_left : (spared : Spared) {old new : HeldMaildir} → Rests spared old new → SparesAll spared → leftover_count new.files ≤ leftover_count old.files
rests_left spared {old} rests all =
    subst (λ s. leftover_count s ≤ leftover_count old.files) (sym rests.files_are) (few_left spared all rests.actions old.files)

swept_acted : (spared : Spared) (actions : List Action) (s : Files) → IsSwept spared s → IsSwept spared (all_acted spared actions s)
swept_acted spared [] s is = is
swept_acted spared (action ∷ actions) s is =
    swept_acted spared actions (acted spared action s) (λ name ours.
    elim (acted_tmp spared name ours action s) as (λ _. get (acted spared action s).tmp name ≡ None) [ inl stays ↦ stays ∙ is name ours | inr goes ↦ goes ])

swept_then : (spared : Spared) (actions : List Action) (old new : Files) → IsSwept spared old → new ≡ all_acted spared actions old → IsSwept spared new
swept_then spared actions old new is same = subst (IsSwept spared) (sym same) (swept_acted spared actions old is)

pub swept_acts : {spared : Spared} {mid new : World} → Acts spared mid new → IsSwept spared mid.files → IsSwept spared new.files
swept_acts {spared} {mid} {new} acts is = swept_then spared acts.actions mid.files new.files is acts.files_are

pub swept_rests : {spared : Spared} (old new : HeldMaildir) → Rests spared old new → IsSwept spared old.files → IsSwept spared new.files
swept_rests {spared} old new rests is = swept_then spared rests.actions old.files new.files is rests.files_are
