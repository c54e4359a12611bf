-- What the delivery of one source owes, as the work goes on.
use Rattle.std.proofs.Common.{◌≡◌, ◌⊎◌, ℕ, List, [], Result, Ok, Err, IfErr, IsErrAnd, inl, inr, subst, sym}
use Rattle.maildir_commands.proofs.Common.{All-head, AllSpared, Appends, Appends-kept, AppendsPrefix, AreAlike, AreIntact, Bytes, DeliversOne, DeliversSource}
use Rattle.maildir_commands.proofs.Common.{Fault, HasItsMessages, Keeps-refl, KeepsSource, Text, Possible, PrintsOne, PrintsReport, Report, Run}
use Rattle.maildir_commands.proofs.Common.{SeenMaildir, Spared}
use Rattle.maildir_commands.proofs.Common.{StopsSource, StoresSource, report_line}
use Rattle.std.specs.Io.KnownBytes.{Keeps}
use Rattle.maildir_run.specs.Delivery.{IsSoundAt}
use Rattle.mbox_text.specs.Writing.{Writes}
use Rattle.maildir_run.specs.declared.fault.RunFault.TheVariants as run
use Rattle.maildir_commands.proofs.Causes.{of_output, output_no_call}
use Rattle.maildir_commands.proofs.Several.{on_err_then, on_ok_then, prefix_of_all}

-- a writer that failed is no call that failed
pub stops_output : {fault : Fault} {before after : Bytes} {old new : SeenMaildir} → fault ≡ Run run.OutputFault
    → StopsSource fault before after old new
stops_output {before = before} {after} is =
    record { cause = of_output before after is; failed_call = λ number is_call. output_no_call is is_call }

-- nothing was written, where `?` answered this fault
pub not_stored : {before after : Bytes} {old new : SeenMaildir} (answer : Result Unit Fault) {fault : Fault} {was : Bytes}
    → IsErrAnd answer (λ given. given ≡ fault) → KeepsSource before after old new → StopsSource fault before after old new
    → DeliversSource answer before after was was old new
not_stored (Ok x) is keeps stopped = absurd is
not_stored {before} {after} {old} {new} (Err e) {was = was} is keeps stopped = record {
  keeps = keeps;
  printed = tt;
  stopped = subst (λ fault. StopsSource fault before after old new) (sym is) stopped;
  prefix = inl (Keeps-refl was);
}

-- it was delivered, and its line was written, or was not
pub stored_printed : {before after was is : Bytes} {old new : SeenMaildir} {report : Report} → KeepsSource before after old new
    → StoresSource report before after old new → (printed : Result Unit Fault) → Writes was is printed (report_line report)
    → IfErr printed (λ fault. fault ≡ Run run.OutputFault) → DeliversSource printed before after was is old new
stored_printed {report = report} keeps stored (Ok tt) line causes =
    record { keeps = keeps; printed = record { report = report; line = line; said = stored }; stopped = tt; prefix = tt }
stored_printed {report = report} keeps stored (Err fault) prefix is_output =
    record { keeps = keeps; printed = tt; stopped = stops_output is_output; prefix = inr (report, stored, prefix) }

-- a line that was given to a buffer, which handed it on, or did not
pub line_handed : (was given kept : Bytes) (line : List ℕ) → Keeps given kept → Appends was given line → (handed : Result Unit Fault)
    → Writes was kept handed line
line_handed was given kept line keeps gave (Ok tt) = Appends-kept was given kept line gave keeps
line_handed was given kept line keeps gave (Err fault) = prefix_of_all was kept (Appends-kept was given kept line gave keeps)

-- ---- a text that the source may have had, and for which the Maildir is sound
module _ (spared : Spared) (was is : Bytes) {before after : Bytes} {old new : SeenMaildir} (h : old.honest spared)
    (text : Text) (are : HasItsMessages text) (possible : Possible before after text.bytes)
    (sound : AllSpared spared (IsSoundAt old.held.files) text.messages) (intact : AreIntact spared text.messages old.held.may_leave) where
  one_stopped : Keeps was is ⊎ ((report : Report) × StoresSource report before after old new × AppendsPrefix was is (report_line report))
      → Keeps was is ⊎ PrintsOne spared old.held new.held text was is
  one_stopped (inl keeps) = inl keeps
  one_stopped (inr (report, stored, prefix)) =
      let stores = stored.texts spared h text are possible sound in
      inr (record { report = report; true_of = stores.reports; safe = stores.safe intact; line = prefix })

  pub one_of : {answer : Result Unit Fault} → DeliversSource answer before after was is old new → DeliversOne spared answer text old.held new.held was is
  one_of {answer} did =
      let stores = λ (printed : PrintsReport was is (λ report.
      StoresSource report before after old new)). printed.said.texts spared h text are possible sound in
      record {
        safe = on_ok_then answer (λ printed. (stores printed).safe intact) did.printed;
        line = on_ok_then answer (λ printed. record {
          report = printed.report;
          line = printed.line;
          said = (stores printed).reports;
        }) did.printed;
        known = on_ok_then answer (λ printed. (stores printed).known) did.printed;
        swept = on_ok_then answer (λ printed. (stores printed).swept) did.printed;
        stopped = on_err_then answer one_stopped did.prefix;
        stays = λ others named alike.
            (did.keeps.texts spared h text are possible).stays sound others named (All-head (λ (t : Text). AreAlike others t.messages) text [] alike);
        still_rooted = did.keeps.still_rooted spared h;
      }
