-- The definitions and lemmas that the proofs use, imported in one place.
use Rattle.std.proofs.Common.{ℕ, List, Option}
pub use Rattle.mbox_text.specs.Mbox.{IsUnreadable}
pub use Rattle.maildir_commands.specs.Causes.{IsCauseOf, IsFailedCall, IsOfDelivery, IsTooLong}
pub use Rattle.maildir_commands.specs.Faults.{fault_of_opening}
pub use Rattle.maildir_commands.specs.Machines.{AreAllSafe, AreAt, AreFit, GivesTexts, HasAlso, HasItsMessages, HeldMaildir, IsSafeIn}
pub use Rattle.maildir_commands.specs.Machines.{IsSoundFor, OthersStay, Rests, bytes_of}
pub use Rattle.maildir_commands.specs.Opening.{ClosesMaildir, OpensMaildir, OpensSources}
pub use Rattle.maildir_commands.specs.Output.{WritesAll, WritesPrefix, output_of}
pub use Rattle.maildir_commands.specs.Private.Causes.{IsOfFiles}
pub use Rattle.maildir_commands.specs.Private.Report.{DeliversFiles, DeliversOne, DeliversTexts, PrintsOne}
pub use Rattle.maildir_commands.specs.Private.Serving.{DeliversAsked, IsOther, Serves}
pub use Rattle.maildir_commands.specs.Program.{Did, IsKnown, MayHaveHad, Works, source_of}
pub use Rattle.maildir_commands.specs.Report.{AreReportsOf, AreTrueOf, PrintsEach, PrintsReport, PrintsReports, PrintsSome, also, report_line}
pub use Rattle.maildir_commands.specs.Seen.{OpenMaildir, SeenMachine, SeenProgram, Untouched, opened, seen_at, seen_with}
pub use Rattle.maildir_commands.specs.Sources.{DeliversSource, KeepsSource, SeenMaildir, StopsSource, StoresSource, seen_folder}
pub use Rattle.maildir_commands.specs.Words.{AskFor, Request, named_files}
pub use Rattle.maildir_commands.specs.Words.Request.{ToConvert, ToWrite}
pub use Rattle.maildir_commands.specs.declared.command.Form.{Form}
pub use Rattle.maildir_commands.specs.declared.fault.Fault.{Fault}
pub use Rattle.maildir_commands.specs.declared.fault.Fault.TheVariants.{Folder, Locked, Run, Source}
pub use Rattle.maildir_disk.specs.Others.{Stays}
pub use Rattle.maildir_disk.specs.PowerCuts.{AreAlike, AreIntact, AreSafe, HasBody, IsIntact}
pub use Rattle.maildir_disk.specs.World.{Acts, World}
pub use Rattle.maildir_disk.specs.declared.faults.OpenFault.{OpenFault}
pub use Rattle.maildir_run.specs.Delivery.{AllSpared, IsSpared}
pub use Rattle.maildir_run.specs.Files.{Spared, SparesAll, all_bases, is_spared}
pub use Rattle.maildir_run.specs.Files.{Action, Files, acted, all_acted, is_name}
pub use Rattle.maildir_run.proofs.Call.Homes.{spared_named}
pub use Rattle.maildir_run.specs.Foreign.{KeepsForeign}
pub use Rattle.maildir_run.specs.Output.{GivesAll, GivesNothing, GivesPrefix, WritesMessages}
pub use Rattle.maildir_run.specs.Reading.{IsReading, ReadsAtLeast, ReadsAtMost}
pub use Rattle.maildir_run.specs.Runs.{IsReportOf, Possible, ReportsMessages}
pub use Rattle.maildir_run.specs.Several.{Text}
pub use Rattle.maildir_run.specs.Touched.{TouchedConverters}
pub use Rattle.maildir_run.specs.declared.fault.RunFault.{RunFault}
pub use Rattle.maildir_run.specs.declared.report.Report.{Report}
pub use Rattle.mbox_text.specs.Writing.{AppendsPrefix}
pub use Rattle.std.proofs.KnownBytes.{Appends-kept, Appends-nil, Appends-trans, Keeps-refl}
pub use Rattle.std.proofs.lemmas.Bool.{cases_Bool, cases_order}
pub use Rattle.std.proofs.lemmas.List.{get_or-map, get_or-take, get_or_default, length-append, length-map, length-take, take_all, take_more}
pub use Rattle.std.proofs.lemmas.List.Concat.{flat_map-append}
pub use Rattle.std.proofs.lemmas.List.Elements.{All-cons, All-contains, All-head, All-nil, All-tail, All-take}
pub use Rattle.std.proofs.lemmas.Result.{IfErr-weaker}
pub use Rattle.std.specs.FinMap.{get}
pub use Rattle.std.specs.Io.KnownBytes.{Appends, IsAtEnd}
pub use Rattle.std.specs.List.{Contains, flat_map}

-- what is known of the bytes of a stream
abbrev pub Bytes : Type 0
Bytes = Option (List ℕ)
