-- The definitions and lemmas that the proofs use, imported in one place. Declares nothing.
pub use Rattle.std.proofs.Common.{Bool, Contains, Decides, Err, IfErr, IfOk, IsErr, IsErrAnd, IsErrOf, IsTrue, List, MatchBool, None, Ok, OnOk, Option, Result}
pub use Rattle.std.proofs.Common.{Some, [], add-zero, ap, append-nil, append_assoc, arith, codes, cond, drop, eqb, eqb-true, false, flat_map, get_or, inl}
pub use Rattle.std.proofs.Common.{inr, is_err, is_ok, is_some, length, length-append, map, not, refl, rules, suc, sym, take, take-add, take-append-drop}
pub use Rattle.std.proofs.Common.{take_all, true, vec_len, zero, ℕ, ◌&&◌, ◌++◌, ◌+◌, ◌-◌, ◌<◌, ◌↔◌, ◌∙◌, ◌∷◌, ◌≡◌, ◌≤◌, ◌⊎◌}
pub use Rattle.std.proofs.KnownBytes.{Appends-kept, Appends-nil, Appends-trans}
pub use Rattle.std.proofs.Math.Seq.{drop-append-add, take-append-add}
pub use Rattle.std.proofs.lemmas.Bool.{and_from, and_parts, and_right, both_ways, cases_Bool, cases_lt, eq-eqb, eqb-false, false_from_ne_true, false≢true}
pub use Rattle.std.proofs.lemmas.Bool.{ne_eqb, true≢false}
pub use Rattle.std.proofs.lemmas.Bool.Decides.{Decides-eqb}
pub use Rattle.std.proofs.lemmas.List.{append_cancel_left, drop-append-le, drop-drop, drop-take, drop_all, drop_at, drop_more, get_or-drop, length-drop}
pub use Rattle.std.proofs.lemmas.List.{length-take, nil_from_length, take-take, take_more, take_rest}
pub use Rattle.std.proofs.lemmas.List.Concat.{flat_map-append}
pub use Rattle.std.proofs.lemmas.Result.{MatchResult-from_err}
pub use Rattle.std.proofs.lemmas.Slice.{pushed}
pub use Rattle.std.proofs.lemmas.Slice.Eq.{ends_is, slice_eq-Decides}
pub use Rattle.std.specs.Io.KnownBytes.{Appends}
pub use Rattle.std.specs.List.{concat, ends_with, starts_with}
pub use Rattle.std.specs.declared.alloc.AllocError.{AllocError}
pub use Rattle.mbox_text.specs.Fed.{Fed, GivesLast, IsTooShort, NeverBegins, RefusesShort, Takes, TakesPart}
pub use Rattle.mbox_text.specs.FromLine.{IsFromLine, after_sender, before_space, hyphened, past_spaces}
unfoldable pub use Rattle.mbox_text.specs.FromLine.{built, cleaned, rest, sender}
pub use Rattle.mbox_text.specs.Held.{AtHead, Held, HeldIn, InBody, Open}
unfoldable pub use Rattle.mbox_text.specs.Held.{Closed}
pub use Rattle.mbox_text.specs.Lines.{Ended, NoEnd, before_first}
unfoldable pub use Rattle.mbox_text.specs.Lines.{lines}
pub use Rattle.mbox_text.specs.Mbox.{Block, IsMboxText, IsUnreadable, NoFrom, kept, unended}
unfoldable pub use Rattle.mbox_text.specs.Mbox.{Mbox, without_blank}
pub use Rattle.mbox_text.specs.Prefixes.{AllButLast, IsProperPrefix, NeverFrom}
pub use Rattle.mbox_text.specs.Private.Lines.{FirstQuotable, IsLine, NoneQuotable}
pub use Rattle.mbox_text.specs.Private.Moved.{Gives, Moves, Refuses, Stops, chopped}
unfoldable pub use Rattle.mbox_text.specs.Private.Moved.{chopped_from}
pub use Rattle.mbox_text.specs.Private.Prefixes.{Stay}
pub use Rattle.mbox_text.specs.Quoting.{begins_with, from_bytes}
unfoldable pub use Rattle.mbox_text.specs.Quoting.{begins_from, quotable, quoted, unquoted}
pub use Rattle.mbox_text.specs.Spelling.{FromLines}
unfoldable pub use Rattle.mbox_text.specs.Spelling.{completed, missing_end, spelling}
pub use Rattle.mbox_text.specs.Writing.{AppendsPrefix, Writes}
pub use Rattle.mbox_text.specs.declared.entry.Entry.{Entry}
pub use Rattle.mbox_text.specs.declared.fault.TextFault.{TextFault}
pub use Rattle.mbox_text.specs.declared.fault.TextFault.TheVariants.{Failed, LineEndInRest, NoFromLine, OutOfMemory, WriteFault}
pub use Rattle.mbox_text.specs.declared.partial_message.PartialMessage.{PartialMessage}
pub use Rattle.mbox_text.specs.declared.splitter.Splitter.{Splitter}
pub use Rattle.memchr.specs.Find.{FindsNeedle, IsFirstByte, IsLastByte, OccursAt, is_byte}
