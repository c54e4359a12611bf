-- What is printed of a conversion.
use Rattle.std.specs.Prelude.{◌≡◌, ℕ, ◌||◌, Bool, List, [], ◌∷◌, ◌++◌, length, take, codes, Option}
use Rattle.std.specs.Fmt.{decimal}
use Rattle.std.specs.Io.KnownBytes.{Appends}
use Rattle.std.specs.List.{flat_map}
use Rattle.mbox_text.specs.Writing.{AppendsPrefix}
use Rattle.maildir_run.specs.Delivery.{has_home, is_base_of, leftover_count}
use Rattle.maildir_run.specs.Files.{Files, Spared}
use Rattle.maildir_run.specs.declared.report.Report.{Report}
use Rattle.maildir_run.specs.Runs.{IsReportOf}
use Rattle.maildir_run.specs.Several.{Text}
use Rattle.maildir_commands.specs.Machines.{HeldMaildir, AreAllSafe}

-- the line with the counts of a run
abbrev pub report_line : Report → List ℕ
report_line report = codes "messages " ++ decimal report.messages ++ codes ", there " ++ decimal report.there
    ++ codes ", placed " ++ decimal report.placed ++ codes ", swept " ++ decimal report.swept ++ codes "\n"

-- The line of one run was written, and `as_said` holds of its report.
pub record PrintsReport (was is : Option (List ℕ)) (as_said : Report → Type 0) : Type 0 where
  pub report : Report
  pub line : Appends was is (report_line report)
  pub said : as_said report

-- the lines of this many runs were written, one after the other
abbrev pub PrintsReports : Option (List ℕ) → Option (List ℕ) → ℕ → Type 0
PrintsReports was is runs = (reports : List Report) × (length reports ≡ runs) × Appends was is (flat_map report_line reports)

-- which bases have a home once a text was delivered
abbrev pub also : (List ℕ → Bool) → Text → List ℕ → Bool
also has text b = is_base_of text.messages b || has b

-- the reports of runs over these texts, one after the other: each run finds the texts before it delivered, and after the first run `tmp` has no leftovers
abbrev pub AreReportsOf : Spared → (List ℕ → Bool) → ℕ → List Text → List Report → Type 0
AreReportsOf spared has leftovers [] [] = Unit {0}
AreReportsOf spared has leftovers [] (report ∷ reports) = ⊥
AreReportsOf spared has leftovers (text ∷ texts) [] = ⊥
AreReportsOf spared has leftovers (text ∷ texts) (report ∷ reports) =
    IsReportOf spared has leftovers text.messages report × AreReportsOf spared (also has text) 0 texts reports

-- the reports are true of runs over these texts, of which the first begins with these files
abbrev pub AreTrueOf : Spared → Files → List Text → List Report → Type 0
AreTrueOf spared old = AreReportsOf spared (has_home old) (leftover_count old)

-- The line of a true report was written for each of the texts, in order.
pub record PrintsEach (spared : Spared) (old : HeldMaildir) (texts : List Text) (was is : Option (List ℕ)) : Type 0 where
  pub reports : List Report
  pub true_of : AreTrueOf spared old.files texts reports
  pub lines : Appends was is (flat_map report_line reports)

-- A prefix of the lines of true reports of the first n texts was written. Each of these texts is in the Maildir, and survives a power cut.
pub record PrintsSome (spared : Spared) (old new : HeldMaildir) (texts : List Text) (was is : Option (List ℕ)) : Type 0 where
  pub n : ℕ
  pub reports : List Report
  pub true_of : AreTrueOf spared old.files (take n texts) reports
  pub safe : AreAllSafe spared (take n texts) new
  pub lines : AppendsPrefix was is (flat_map report_line reports)
