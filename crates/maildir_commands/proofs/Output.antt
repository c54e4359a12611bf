-- What a buffer is given, and what it hands on.
use Rattle.std.proofs.Common.{◌≡◌, ℕ, List, [], ◌++◌, length, take, refl, sym, ap, subst, ◌∙◌, append-nil}
use Rattle.std.proofs.Common.{Some, None}
use Rattle.std.proofs.Math.Seq.{take-length}
use Rattle.maildir_commands.proofs.Common.{Appends, Appends-kept, Appends-nil, AppendsPrefix, AreAllSafe, AreTrueOf, Bytes, GivesAll, GivesPrefix, Spared}
use Rattle.maildir_commands.proofs.Common.{HeldMaildir, IsAtEnd, Text, PrintsEach, PrintsReports, PrintsSome, WritesAll, WritesPrefix, flat_map}
use Rattle.maildir_commands.proofs.Common.{report_line}
use Rattle.std.specs.Io.KnownBytes.{Keeps}
use Rattle.mbox_text.specs.declared.entry.Entry.{Entry}
use Rattle.mbox_text.proofs.Reading.OneReading.{mbox-one}
use Rattle.maildir_commands.proofs.Several.{prefix_of_all}

-- what was given to a buffer that was handed on whole
pub handed_all : (output : List Entry → List ℕ) (source was given inner : Bytes)
    → WritesAll output source was given → Keeps given inner → WritesAll output source was inner
handed_all output None was given inner (count, all) keeps = (count, all)
handed_all output (Some t) was given inner (count, (entries, mbox, many, grown)) keeps =
    (count, (entries, mbox, many, Appends-kept was given inner _ grown keeps))

pub handed_reports : (runs : ℕ) (was given inner : Bytes) → PrintsReports was given runs → Keeps given inner → PrintsReports was inner runs
handed_reports runs was given inner (reports, many, grown) keeps = (reports, many, Appends-kept was given inner _ grown keeps)

pub handed_each : {spared : Spared} (old : HeldMaildir) (texts : List Text) (was given inner : Bytes)
    → PrintsEach spared old texts was given → Keeps given inner → PrintsEach spared old texts was inner
handed_each old texts was given inner each keeps =
    record { reports = each.reports; true_of = each.true_of; lines = Appends-kept was given inner _ each.lines keeps }

pub prefix_kept : (was given kept : Bytes) {bytes : List ℕ} → Keeps given kept → AppendsPrefix was given bytes → AppendsPrefix was kept bytes
prefix_kept was given kept keeps (taken, rest, are, line) = (taken, rest, are, Appends-kept was given kept taken line keeps)

-- what was written whole of a source that was read to its end
pub all_given : (output : List Entry → List ℕ) (before after was is : Bytes)
    → IsAtEnd after → WritesAll output before was is → GivesPrefix output before after was is
all_given output before after was is ended (count, all) t entries possible mbox =
    let left : possible.left ≡ [] = subst IsAtEnd possible.has ended in
    let prefix : t ≡ possible.read = possible.prefix ∙ (ap (λ more. possible.read ++ more) (possible.whole left) ∙ append-nil possible.read) in
    let whole : before ≡ Some t = possible.had ∙ ap Some (ap (λ more. possible.read ++ more) left ∙ (append-nil possible.read ∙ sym prefix)) in
    let given : GivesAll output (Some t) was is count = subst (λ source. GivesAll output source was is count) whole all in
    prefix_of_all was is (subst (λ es. Appends was is (output es)) (mbox-one t given.0 entries given.1 mbox) given.3)

pub some_kept : {spared : Spared} (old new : HeldMaildir) (texts : List Text) (was given kept : Bytes)
    → Keeps given kept → PrintsSome spared old new texts was given → PrintsSome spared old new texts was kept
some_kept old new texts was given kept keeps some =
    record { n = some.n; reports = some.reports; true_of = some.true_of; safe = some.safe; lines = prefix_kept was given kept keeps some.lines }

pub each_some : {spared : Spared} {old new : HeldMaildir} {texts : List Text} {was given kept : Bytes}
    → Keeps given kept → PrintsEach spared old texts was given → AreAllSafe spared texts new → PrintsSome spared old new texts was kept
each_some {spared} {old} {new} {texts} {was} {given} {kept} keeps each safe =
    let whole : take (length texts) texts ≡ texts = take-length texts in
    record {
      n = length texts;
      reports = each.reports;
      true_of = subst (λ ts. AreTrueOf spared old.files ts each.reports) (sym whole) each.true_of;
      safe = subst (λ ts. AreAllSafe spared ts new) (sym whole) safe;
      lines = prefix_of_all was kept (Appends-kept was given kept (flat_map report_line each.reports) each.lines keeps);
    }

-- where nothing was written
pub nothing_prefix : (output : List Entry → List ℕ) (t : List ℕ) (was : Bytes) → WritesPrefix output t was was
nothing_prefix output t was entries mbox = ([], output entries, refl, Appends-nil was)
