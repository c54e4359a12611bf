-- What the three listings tell together.
use Rattle.std.proofs.Common.{◌≡◌, ℕ, ◌≤◌, Bool, List, [], ◌∷◌, ◌++◌, IsPermutation, IsTrue, length, sym, ◌∙◌, inl, inr, arith, filter}
use Rattle.maildir_run.proofs.Common.{list_any, len, retain_keys, or_parts, or_cases, cases_Bool, length-filter, Spared, SparesAll, is_spared, AnyMoves}
use Rattle.maildir_run.proofs.Common.{IsPermutation-trans, sum_by-IsPermutation, Sub, Tmp, New, Cur}
use Rattle.maildir_run.proofs.Common.{is_converter_name, Files, has_base, held_under, homes, Listing, Move, Again}
use Rattle.maildir_run.proofs.Common.{moved, after, folder_of, Lists, has_home, leftover_count, is_listed, TmpWithin}
use Rattle.maildir_run.proofs.Call.Moves.{homes_none, both_none, after_kept}
use Rattle.maildir_run.proofs.Call.ListedNowhere.{listed_new, listed_cur}
use Rattle.maildir_run.proofs.Call.Leftovers.{leftovers_are, acted_count}
use Rattle.maildir_run.proofs.Call.Steps.{listing_keeps_homes, not_shown, called_tmp, within_on}
use Rattle.maildir_run.proofs.Tasks.Progress.{any_kept}
use Rattle.maildir_run.proofs.Call.Homes.{none_of}

-- tmp gains no converter's name by a listing
pub listed_within : {spared : Spared} {sub : Sub} {listed : List (List ℕ)} {old : Files} {names : List (List ℕ)} {new : Files}
    → Lists spared sub old names new → TmpWithin spared listed old → TmpWithin spared listed new
listed_within {spared} {sub} {listed} {old} {new = new} h =
    let moves : AnyMoves spared (Listing sub) old new = record { moves = h.before ++ Again ∷ h.rest; left = h.left } in
    within_on (λ q ours off. called_tmp q ours tt moves)

-- ---- which bases have a home
shows_none : {spared : Spared} (b : List ℕ) → IsTrue (is_spared spared b) → (sub : Sub) → ((s : Files) → homes s b ≡ [] → held_under b (folder_of sub s) ≡ [])
    → (old : Files) (names : List (List ℕ)) (new : Files) → Lists spared sub old names new → IsTrue (list_any (has_base b) names) → homes old b ≡ [] → ⊥
shows_none {spared} b named sub none_held old names new listed on e =
    let mid = after spared old (Listing sub) listed.before in
    not_shown b _ listed.names_are (none_held mid (homes_none b old mid (after_kept spared b named (Listing sub) tt listed.before old) e)) on

two_listings : {spared : Spared} (b : List ℕ) → IsTrue (is_spared spared b) → (s t u : Files) (in_new in_cur : List (List ℕ))
    → Lists spared New s in_new t → Lists spared Cur t in_cur u → is_listed in_new in_cur b ≡ has_home s b
two_listings {spared} b named s t u in_new in_cur first second =
    let kept_first = (listing_keeps_homes New s in_new t first).kept b named in
    let kept_both = IsPermutation-trans _ _ _ kept_first ((listing_keeps_homes Cur t in_cur u second).kept b named) in
    elim (cases_Bool (is_listed in_new in_cur b)) [
      | inl on ↦
          elim (cases_Bool (has_home s b)) [
            | inl e ↦ on ∙ sym e
            | inr e ↦
                let none = none_of _ e in
                absurd (elim (or_cases (list_any (has_base b) in_new) (list_any (has_base b) in_cur) on) [
                  | inl shown ↦ shows_none b named New (λ x e. (both_none _ _ e).0) s in_new t first shown none
                  | inr shown ↦ shows_none b named Cur (λ x e. (both_none _ _ e).1)
                      t in_cur u second shown (homes_none b s t kept_first none)
                ])
          ]
      | inr off ↦
          let parts = or_parts (list_any (has_base b) in_new) (list_any (has_base b) in_cur) off in
          let none : homes u b ≡ [] = listed_cur spared b named t in_cur u (listed_new spared b named s in_new t first parts.0) second parts.1 in
          grind (arith, any_kept)
    ]

pub three_listings : {spared : Spared} (b : List ℕ) → IsTrue (is_spared spared b) → {r s t u : Files} {in_tmp in_new in_cur : List (List ℕ)}
    → Lists spared Tmp r in_tmp s → Lists spared New s in_new t → Lists spared Cur t in_cur u → is_listed in_new in_cur b ≡ has_home r b
three_listings b named {r} {s} {t} {u} {in_tmp} {in_new} {in_cur} none first second =
    two_listings b named s t u in_new in_cur first second ∙ sym (any_kept _ _ ((listing_keeps_homes Tmp r in_tmp s none).kept b named))

-- ---- how many are left over
moved_count : (spared : Spared) → SparesAll spared → (m : Move) (s : Files)
    → len (retain_keys (moved spared (Listing Tmp) m s).tmp is_converter_name) ≤ len (retain_keys s.tmp is_converter_name)
moved_count spared all m s = grind (arith, acted_count)

listing_count : (spared : Spared) → SparesAll spared → (ms : List Move) (s : Files)
    → len (retain_keys (after spared s (Listing Tmp) ms).tmp is_converter_name) ≤ len (retain_keys s.tmp is_converter_name)
listing_count spared all [] s = omega arith
listing_count spared all (m ∷ ms) s =
    let one = moved_count spared all m s in let more = listing_count spared all ms (moved spared (Listing Tmp) m s) in omega arith

pub filter-length : (p : List ℕ → Bool) {xs ys : List (List ℕ)} → IsPermutation xs ys → length (filter p xs) ≡ length (filter p ys)
filter-length p {xs} {ys} h = grind (arith, length-filter, sum_by-IsPermutation)

pub few_listed : {spared : Spared} {old : Files} {names : List (List ℕ)} {new : Files} → Lists spared Tmp old names new
    → SparesAll spared → length (filter is_converter_name names) ≤ leftover_count old
few_listed {spared} {old} {names} listed all =
    let mid = after spared old (Listing Tmp) listed.before in
    let same = filter-length is_converter_name listed.names_are in
    let few = listing_count spared all listed.before old in
    grind (arith, leftovers_are)
