-- Where the messages are delivered, a quiet run has nothing to do.
use Rattle.std.proofs.Common.{◌≡◌, ℕ, ◌+◌, ◌%◌, ◌^◌, length, Ok, arith, true, cond, not, List, [], ◌∷◌, All, None, IsTrue, refl, ap, ◌∙◌, inr, zero}
use Rattle.maildir_run.proofs.Common.{get, retain_keys, same_map, empty, get-empty, len-empty, All-head, All-tail, is_converter_name}
use Rattle.maildir_run.proofs.Common.{Files, FileMap, name_cmp, Message, is_any, has_home, IsHome, IsSwept, Delivered, there_count}
use Rattle.maildir_run.proofs.Common.{leftover_count, Report, MessagesOf, IsRun, CountsRun, swept, added, filled, alone}
use Rattle.maildir_run.proofs.Call.Leftovers.{leftovers_are}
use Rattle.maildir_run.proofs.Chains.BaseNumbers.{count-cons}
use Rattle.maildir_run.proofs.Names.Maps.{total, same, get_under}
use Rattle.maildir_run.proofs.Common.{all_bases, AllSpared, IsSpared}

all_kept : {m : FileMap} → ((name : List ℕ) → IsTrue (is_converter_name name) → get m name ≡ None) → retain_keys m (λ name. not (is_converter_name name)) ≡ m
all_kept gone = same_map total same _ _ (λ q. grind (arith, get_under, gone q))

nothing_swept : {s : Files} → IsSwept all_bases s → swept s ≡ s
nothing_swept {s} gone = grind (arith, all_kept)

-- of the set of all bases each message is spared
pub all_home : (s : Files) (ms : List Message) → AllSpared all_bases (IsHome s) ms → All (IsHome s) ms
all_home s ms there = λ k e h. there k e h refl

nothing_filled : (start : Files) (ms : List Message) {s : Files} → AllSpared all_bases (IsHome start) ms → filled start ms s ≡ s
nothing_filled start [] there = refl
nothing_filled start (m ∷ ms) {s} there =
    let has : has_home start m.target.base ≡ true = ap is_any (there zero m (omega arith) refl) in
    ap (λ t. filled start ms (cond t s (added s m.target.place m.target.name m.body))) has
    ∙ nothing_filled start ms (All-tail (λ n. IsSpared all_bases n → IsHome start n) m ms there)

pub alone-delivered : {ms : List Message} {s : Files} → Delivered all_bases ms s → alone ms s ≡ s
alone-delivered {ms} {s} d = nothing_filled s ms d.homes_are ∙ nothing_swept d.swept

no_converter_kept : (m : FileMap) → ((name : List ℕ) → IsTrue (is_converter_name name) → get m name ≡ None) → retain_keys m is_converter_name ≡ empty
no_converter_kept m gone = same_map total same _ _ (λ q. grind (arith, get_under, gone q, get-empty {X = List ℕ} name_cmp q))

all_there : (s : Files) (ms : List Message) → All (IsHome s) ms → there_count (has_home s) ms ≡ length ms
all_there s [] there = refl
all_there s (m ∷ ms) there =
    let rest = all_there s ms (All-tail (IsHome s) m ms there) in
    count-cons (λ (n : Message). has_home s n.target.base) m ms true (ap is_any (All-head (IsHome s) m ms there)) ∙ omega (arith, rest)

pub three_calls : (t : List ℕ) (ms : List Message) (s new : Files) (report : Report) → MessagesOf t ms
    → Delivered all_bases ms s → IsRun all_bases t s (Ok report) new → (before after : ℕ) → CountsRun report before after →
    (report.placed ≡ 0) × (report.swept ≡ 0) × (after % 2 ^ 128 ≡ (before + 3) % 2 ^ 128)
three_calls t ms s new report are d run before after made =
    let reports = (run.keeps ms are (λ k e h sp. inr (d.homes_are k e h sp))).ends.reports in
    let there = all_there s ms (all_home s ms d.homes_are) in
    let is_placed = reports.placed (λ k e h. refl) in
    let is_swept = reports.swept (λ b named. refl) in
    let leftovers : leftover_count s ≡ 0 = grind (arith, leftovers_are, no_converter_kept, len-empty) in
    let placed : report.placed ≡ 0 = omega (arith, is_placed, there) in
    let swept : report.swept ≡ 0 = omega (arith, is_swept, leftovers) in
    grind arith
