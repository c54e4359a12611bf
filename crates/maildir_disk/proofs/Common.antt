-- The definitions and lemmas that the proofs use, imported in one place. Declares nothing.
pub use Rattle.std.proofs.lemmas.Bool.{and_parts, cases_Bool, cases_order, false_from_ne_true, false≢true}
pub use Rattle.std.proofs.lemmas.List.Elements.{All-contains, All-head, All-tail, Contains-append_cases, Contains-append_left}
pub use Rattle.std.proofs.lemmas.List.Elements.{Contains-append_right, Contains-push}
pub use Rattle.std.specs.FinMap.{contains_key, empty, entries, get, get-entries, get-insert, get-remove, insert, keys, remove, same_map}
pub use Rattle.std.specs.Time.{system_time_nanos}
pub use Rattle.std.specs.declared.io.Error.{Error}
pub use Rattle.maildir_name.specs.Names.{is_converter_name}
pub use Rattle.maildir_name.specs.declared.target.Place.{Place}
pub use Rattle.maildir_run.proofs.Call.Cuts.{left_as}
pub use Rattle.maildir_run.proofs.Call.Homes.{absent, acted_kept, converters, equally, get-outsiders_of, held-insert_new, held-insert_other}
pub use Rattle.maildir_run.proofs.Call.Homes.{held-remove_old, spared_named}
pub use Rattle.maildir_run.proofs.Call.Moves.{after_kept, after_tmp, held_none, homes_none, homes_one, none_held, writing_ok}
pub use Rattle.maildir_run.proofs.Chains.MessageLemmas.{text_distinct, text_named, text_targets}
pub use Rattle.std.proofs.lemmas.List.Sorted.{length_permutation}
pub use Rattle.maildir_run.proofs.Names.Maps.{alike, get-insert_same, is_name-refl, is_name-true, same, total}
pub use Rattle.maildir_run.specs.Calls.{after, Again, AnyMoves, Call, Called, CalledQuietly, effect, folder_of, IsOthers, IsOwn, IsWhole, Listed}
pub use Rattle.maildir_run.specs.Calls.{Listing, Lists, Move, moved, Other, placed, PlacesElsewhere, Placing, Removing, StaysOrGoes, Succeeded, Torn}
pub use Rattle.maildir_run.specs.Calls.{Writing}
pub use Rattle.maildir_run.specs.Cuts.{Came, CutMove, Doubled, doubled, Follows, IsFoundWhole, Leaves, LeavesOf, left_after, linked}
pub use Rattle.maildir_run.specs.Delivery.{AllSpared, IsSpared}
pub use Rattle.maildir_run.specs.Delivery.{AreDistinct, AreNamed, HasHome, is_any, is_base_of, IsHome, IsSoundAt, Message}
pub use Rattle.maildir_run.specs.Files.{acted, Action, all_acted, DropTmp, FileMap, Files, has_base, held_under, homes, is_name}
pub use Rattle.maildir_run.specs.Files.{all_bases, is_spared, is_spared_name, KeepsSpared, Spared}
pub use Rattle.maildir_run.specs.Files.{may_take, Outside, outsiders_of, Reflag, ToCur}
pub use Rattle.maildir_run.specs.Runs.{IsRun, KeepsMessages, ReportsMessages}
pub use Rattle.maildir_run.specs.Texts.{MessagesOf}
pub use Rattle.maildir_run.specs.declared.fault.RunFault.{RunFault}
pub use Rattle.maildir_run.specs.declared.folder.Sub.{Sub}
pub use Rattle.maildir_run.specs.declared.folder.Sub.TheVariants.{Cur, New, Tmp}
pub use Rattle.maildir_run.specs.declared.report.Report.{Report}
pub use Rattle.maildir_disk.specs.Stamps.{IsFarAhead, IsSettled}
pub use Rattle.maildir_disk.specs.PowerCuts.{AreAlike, AreIntact, AreSafe, HasBody, IsIntact, IsSingle, KeepsHeld, KeepsNames, LeftByOthers, Survive, Syncs}
pub use Rattle.maildir_disk.specs.Private.Writing.{Written}
pub use Rattle.maildir_disk.specs.Quiet.{AppendedQuietly}
pub use Rattle.maildir_disk.specs.World.{Acts, IsOfChange, IsStampWithin, margin_of, Passes, ReadsNames, World}
pub use Rattle.maildir_disk.specs.Writing.{Appended, changed, Comes, rewritten}
