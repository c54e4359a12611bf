-- Lines of runs that are printed one after the other.
use Rattle.std.proofs.Common.{◌≡◌, ℕ, ◌+◌, max, arith, List, [], ◌∷◌, ◌++◌, length, refl, sym, ◌∙◌, ap, subst, append-nil}
use Rattle.maildir_commands.proofs.Common.{Appends, Appends-nil, Appends-trans, Bytes, PrintsReport, PrintsReports, Report, flat_map, flat_map-append}
use Rattle.maildir_commands.proofs.Common.{length-append, report_line}

-- one for each source
pub one_each : (x : List ℕ) (xs : List (List ℕ)) → 1 + length xs ≡ max 1 (length (x ∷ xs))
one_each x xs = grind arith

-- one line
pub one_report : {was is : Bytes} (as_said : Report → Type 0) → PrintsReport was is as_said → PrintsReports was is 1
one_report {was} {is} as_said printed =
    (printed.report ∷ [], refl, subst (Appends was is) (sym (append-nil (report_line printed.report))) printed.line)

-- none
pub none_reported : (was : Bytes) → PrintsReports was was 0
none_reported was = ([], refl, Appends-nil was)

-- some lines, and more after them
pub more_reports : (was mid is : Bytes) {n m : ℕ} → PrintsReports was mid n → PrintsReports mid is m → PrintsReports was is (n + m)
more_reports was mid is {n} (first, many, printed) (second, more, printed') = (
  first ++ second,
  length-append first second ∙ (ap (λ k. k + length second) many ∙ ap (λ k. n + k) more),
  subst (Appends was is) (sym (flat_map-append report_line first second))
      (Appends-trans was mid is (flat_map report_line first) (flat_map report_line second) printed printed'),
)
