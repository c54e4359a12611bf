-- The definitions and lemmas that the proofs use, imported in one place. Declares nothing.
pub use Rattle.std.proofs.KnownBytes.{Appends-nil, Appends-trans, Consumes-nil, Consumes-trans}
pub use Rattle.std.proofs.Math.Bool.{or-false, or-true}
pub use Rattle.std.proofs.Math.Seq.{drop-append_seam, drop-cons, drop-nil, get_or-append_seam, take-length}
pub use Rattle.std.proofs.lemmas.Bool.{and_parts, cases_Bool, cases_lt, false_from_ne_true, false≢true, or_cases, or_parts}
pub use Rattle.std.proofs.lemmas.Cmp.{eq_by_cmp_equiv, nat_list_cmp_total}
pub use Rattle.std.proofs.lemmas.List.{append_cancel_right, drop_more, get_or-map, get_or_append_left, length-map}
pub use Rattle.std.proofs.lemmas.List.{map-append, nil_from_length, take-map, take_more}
pub use Rattle.std.proofs.lemmas.List.Concat.{flat_map-append}
pub use Rattle.std.proofs.lemmas.List.Elements.{All-cons, All-contains, All-from_get_or, All-head, All-nil, All-push, All-tail, All-weaker, Contains-get_or}
pub use Rattle.std.proofs.lemmas.List.Folds.{list_any-append, list_any_at, list_any_none}
pub use Rattle.std.proofs.lemmas.List.Sorted.{All-permutation, IsPermutation-append_left, IsPermutation-append_right}
pub use Rattle.std.proofs.lemmas.List.Sorted.{IsPermutation-cons, IsPermutation-middle, IsPermutation-refl, IsPermutation-sym}
pub use Rattle.std.proofs.lemmas.List.Sorted.{IsPermutation-trans, length_permutation, list_any-IsPermutation, sum_by-IsPermutation}
pub use Rattle.std.proofs.lemmas.List.Sums.{count_by-le-length, count_by_more_yes, length-filter, sum_by-cons, sum_by-take-le}
pub use Rattle.std.proofs.lemmas.Map.Views.{any-filter_same}
pub use Rattle.std.specs.Cmp.Lexicographic.{bytes_decides, nat_list_eq_equiv, slice_cmp}
pub use Rattle.std.specs.FinMap.{contains_key, contains_key-keys, empty, entries, entries-from_sorted, entries-insert, entries_sorted}
pub use Rattle.std.specs.FinMap.{find, from_entries, from_sorted, get, get-empty, get-entries, get-from_entries, get-from_sorted}
pub use Rattle.std.specs.FinMap.{get-insert, get-remove, get-retain_keys, insert, IsAntisymmetric, keys, len, len-empty, len-entries, len-remove}
pub use Rattle.std.specs.FinMap.{nat_cmp-IsAntisymmetric, put, remove, retain_keys, same_map, slice_cmp-IsAntisymmetric, values}
pub use Rattle.std.specs.Io.KnownBytes.{Appends, Consumes, IsAtEnd}
pub use Rattle.std.specs.List.{AllZip, each_same, list_any}
pub use Rattle.std.specs.declared.cmp.Ordering.TheVariants.{Equal, Greater, Less}
pub use Rattle.maildir_name.proofs.TargetLemmas.{get_or-targets, length-targets, targets-prefix, targets-push}
pub use Rattle.maildir_name.specs.Named.{Counts, Named}
pub use Rattle.maildir_name.specs.Names.{base, is_converter_base, is_converter_name, IsConverterBase}
pub use Rattle.maildir_name.specs.Targets.{digest_text, numbered, same_digest, target, targets}
pub use Rattle.maildir_name.specs.declared.target.Target.{Target}
pub use Rattle.mbox_text.proofs.Written.Appended.{prefix_more, prefix_then}
pub use Rattle.mbox_text.proofs.Reading.OneReading.{mbox-one}
pub use Rattle.mbox_text.specs.Fed.{Fed, IsTooShort, NeverBegins}
pub use Rattle.mbox_text.specs.FromLine.{IsFromLine, sender}
pub use Rattle.mbox_text.specs.Mbox.{IsUnreadable, Mbox}
pub use Rattle.mbox_text.specs.Spelling.{FromLines, spelling}
pub use Rattle.mbox_text.specs.Writing.{AppendsPrefix, Writes}
pub use Rattle.mbox_text.specs.declared.entry.Entry.{Entry}
pub use Rattle.mbox_text.specs.declared.splitter.Splitter.{Splitter}
pub use Rattle.maildir_run.specs.Alone.{added, alone, filled, swept}
pub use Rattle.maildir_run.specs.Private.Bases.{BaseSet, set_of, with_bases}
pub use Rattle.maildir_run.specs.Calls.{after, Again, Call, Called, CalledQuietly, CountsFailure, MayAnswer, effect, AnyMoves, folder_of, GoesUp, IsOthers}
pub use Rattle.maildir_run.specs.Calls.{IsOwn, IsReady, IsWhole, Listed, Listing, Lists, Move, moved, names_of, Other, placed}
pub use Rattle.maildir_run.specs.Calls.{PlacesElsewhere, Placing, Removing, StaysOrGoes, Succeeded, Torn, torn, WritesElsewhere, Writing}
pub use Rattle.maildir_run.specs.Counting.{capped, CountsFault, fault_of, HasCallNumber, IsOfFolder, CallNumber, raised}
pub use Rattle.maildir_run.specs.Private.Counting.{Makes, run_answer}
pub use Rattle.maildir_run.specs.Cuts.{Came, IsFoundWhole, Leaves, LeavesOf, Follows, left_after, linked}
pub use Rattle.maildir_run.specs.Delivery.{AreDistinct, AreNamed, Delivered, has_home, HasHome, is_any, is_base_of, IsHome}
pub use Rattle.maildir_run.specs.Delivery.{AllSpared, IsSpared}
pub use Rattle.maildir_run.specs.Delivery.{IsMissing, IsSoundAt, IsSwept, leftover_count, Message, Sound, there_count}
pub use Rattle.maildir_run.specs.Files.{all_bases, is_spared, is_spared_name, Spared, SparesAll}
pub use Rattle.maildir_run.specs.Files.{acted, Action, AgreeOnSpared, all_acted, DropTmp, FileMap, Files, has_base, held_under, homes, is_name}
pub use Rattle.maildir_run.specs.Files.{KeepsSpared, may_take, name_cmp, Outside, outsiders_of, Reflag, reflag, to_cur, ToCur, KeepsHomes}
pub use Rattle.maildir_run.specs.Private.Given.{IsPrefixOf, Gave, GaveAll, IsGiven, SourceStopped, StoppedAfter}
pub use Rattle.maildir_run.specs.Private.Printing.{HasListed, IsOutput}
pub use Rattle.maildir_run.specs.Table.{info, message_row, shown_byte, shown_sender}
pub use Rattle.maildir_run.specs.MemFiles.{files_in, with_file, without_file}
pub use Rattle.maildir_run.specs.Private.Parts.{DeliversMessages, messages_after, names_in, OneTouches, Performed}
pub use Rattle.maildir_run.specs.Touched.{Touches, TouchedOnly, TouchedConverters}
pub use Rattle.maildir_run.specs.Seen.{Seen, CallOf, ListingOf}
pub use Rattle.maildir_run.specs.Parts.{deliveries_of, delivery_if, delivery_of, sweep_of}
pub use Rattle.maildir_run.specs.Plan.{deliveries_from, steps_for, each_alone, is_listed, planned, removals}
pub use Rattle.maildir_run.specs.Private.Progress.{DeliversMessage, IsTarget, Knows, message_at, Progress, TmpWithin}
pub use Rattle.maildir_run.specs.Foreign.{KeepsForeign}
pub use Rattle.maildir_run.specs.Reading.{IsReading, ReadsAtLeast}
pub use Rattle.maildir_run.specs.Runs.{Acted, Chain, CountsRun, KeepsMessages, Link, Linked, Possible, IsRun, Runs}
pub use Rattle.maildir_run.specs.Script.{acts_at, all_performed, Answers, done, halved, IsCutShort, IsPart, mode_at, performed}
pub use Rattle.maildir_run.specs.Private.Script.{may_link}
pub use Rattle.maildir_run.specs.Tasks.{AllDone, Ask, call_of, Do, Done, DoneUntil, leaving, listing_tasks, Listings}
pub use Rattle.maildir_run.specs.Tasks.{Performs, planned_tasks, honestly, Stopped, Task, task_of, tasks_of, Way}
pub use Rattle.maildir_run.specs.Private.Tasks.{quietly}
pub use Rattle.maildir_run.specs.Texts.{bodies_of, messages_of, MessagesOf, with_bodies}
pub use Rattle.maildir_run.specs.declared.engine.Engine.{Engine}
pub use Rattle.maildir_run.specs.declared.fault.RunFault.{RunFault}
pub use Rattle.maildir_run.specs.declared.fault.RunFault.TheVariants.{NoFromLine, OutOfMemory, ReadFault, TooManyReads}
pub use Rattle.maildir_run.specs.declared.folder.FolderFault.{FolderFault}
pub use Rattle.maildir_run.specs.declared.folder.Sub.{Sub}
pub use Rattle.maildir_run.specs.declared.folder.Sub.TheVariants.{Cur, New, Tmp}
pub use Rattle.maildir_run.specs.declared.planner.Step.{Step}
pub use Rattle.maildir_run.specs.declared.planner.Step.TheVariants.{Place, Remove, Write}
pub use Rattle.maildir_run.specs.declared.report.Report.{Report}
pub use Rattle.maildir_run.specs.declared.in_memory.script.Mode.{Mode}
pub use Rattle.maildir_run.specs.declared.in_memory.script.Mode.TheVariants.{FailAfter, FailBefore, Half, Plain, Twice}
