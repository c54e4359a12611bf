use Rattle.std.proofs.Common.{rules, [], ◌++◌, refl, ◌∙◌, ap, inl, inr, length, arith}
use Rattle.maildir_run.proofs.Common.{all_bases, bodies_of}
use Rattle.maildir_run.proofs.Run.Delivering.{delivers_none}
use Rattle.maildir_run.proofs.Run.Conversions.{stops, stops_in_folder, stops_unread, all_ran, tells_listed, one_batch, report_tells}
use Rattle.maildir_run.proofs.Run.Owed.{converts}
use Rattle.maildir_run.proofs.Source.Givens.{gave_none, given_prefix, prefix_few, unread}
use Rattle.maildir_run.proofs.Run.Batches.{batch_fits, batch_count, batch_begun}
use Rattle.maildir_run.proofs.Tasks.Tasks.{ran_then, ran_before, ran_stop}
use Rattle.maildir_run.proofs.converting.convert.Goals as goal

pub returns-in_err-reader : goal.returns-in_err-reader
returns-in_err-reader g c =
    converts c.requires (g.met.F.Folder.quiet_is_honest c.args.folder.now all_bases)
    (stops_unread c.from_residual.ensures.1 (inr (inr (inr refl))) (unread (g.R.Read.remaining c.args.source.now)))

-- Searched: the residual's name is another one where the folder is listed first, and there it is the clause that is to fail.
pub returns-in_err-ended : goal.returns-in_err-ended
returns-in_err-ended g c =
    converts c.requires (g.met.F.Folder.quiet_is_honest c.args.folder.now all_bases)
    (stops_unread (search rules) c.in_err-ended.ensures.causes (c.in_err-ended.ensures.refused _ _ [] (gave_none _ c.in_ok-reader.ensures)))

pub returns-in_err-listings : goal.returns-in_err-listings
returns-in_err-listings g c =
    let is = c.from_residual-in_err-listings.ensures.1 in
    let begins = c.in_ok-ended.ensures.gives in
    let look = c.in_err-listings.ensures.ran in
    converts c.requires (g.met.F.Folder.quiet_is_honest c.args.folder.now all_bases)
    (stops_in_folder is c.in_err-listings.ensures.causes _
    (given_prefix _ _ _ _ _ _ _ (begins.gave _ _ [] (gave_none _ c.in_ok-reader.ensures))) look.0 look.1 _ _ c.new-calls.ensures
    (ran_before _ look.2))

pub returns-in_err-engine : goal.returns-in_err-engine
returns-in_err-engine g c =
    let is = c.from_residual-in_err-engine.ensures.1 in
    let begins = c.in_ok-ended.ensures.gives in
    let look = c.in_ok-listings.ensures.ran in
    let sweep = rw look.3.0 at c.in_err-engine.ensures.ran.1 in
    converts c.requires (g.met.F.Folder.quiet_is_honest c.args.folder.now all_bases)
    (stops_in_folder is c.in_err-engine.ensures.causes _
    (given_prefix _ _ _ _ _ _ _ (begins.gave _ _ [] (gave_none _ c.in_ok-reader.ensures))) look.0 look.1 _ _ c.new-calls.ensures
    (ran_then look.2 (ran_before _ sweep)))

pub pieces-init : goal.pieces-init
pieces-init g c =
    let begins = c.in_ok-ended.ensures.gives in
    record {
      given = [];
      gave = begins.gave _ _ [] (gave_none _ c.in_ok-reader.ensures);
      begun = begins.some;
      count = c.in_ok-engine.ensures.counts.0;
      delivers = delivers_none c.in_ok-engine.ensures.namer;
    }

pub deliver_entries-requires : goal.deliver_entries-requires
deliver_entries-requires g c =
    let i = c.pieces.invariant in
    let few = prefix_few (given_prefix _ _ _ _ _ _ _ i.gave) in
    batch_fits i.given i.count few c.requires c.deref.ensures.value

pub pieces-preserved : goal.pieces-preserved
pieces-preserved g c =
    let i = c.pieces.invariant in
    let whole = c.pieces.whole.items in
    let entries = c.deref.result.now in
    let is = c.deref.ensures.value in
    let few = prefix_few (given_prefix _ _ _ _ _ _ _ i.gave) in
    record {
      given = i.given ++ whole;
      gave = c.in_ok-ended-2.ensures.gives.gave _ _ _ (rw c.if-ended.false at i.gave);
      begun = λ e. batch_begun _ c.next_batch-in-pieces.new.whole.items (i.begun c.if-ended.false);
      count = batch_count _ _ i.given whole entries i.count c.in_ok-deliver_entries.ensures.all is;
      delivers = one_batch i.given whole entries _ is few c.requires i.delivers c.in_ok-deliver_entries.ensures.delivers;
    }

pub returns-in_err-deliver_entries : goal.returns-in_err-deliver_entries
returns-in_err-deliver_entries g c =
    let is = c.from_residual-in_err-deliver_entries.ensures.1 in
    let i = c.pieces.invariant in
    let given = i.given ++ c.pieces.whole.items in
    let look = c.in_ok-listings.ensures.ran in
    let begin = c.in_ok-engine.ensures.ran in
    let prefix = given_prefix _ _ _ _ _ _ given i.gave in
    let few = prefix_few prefix in
    let listed = tells_listed _ _ _ look.0 (bodies_of given) c.in_ok-engine.ensures.there look.3.1 look.3.2 in
    let delivers = one_batch i.given _ _ _
    c.deref.ensures.value few c.requires i.delivers c.in_err-deliver_entries.ensures.delivers in
    converts c.requires (g.met.F.Folder.quiet_is_honest c.args.folder.now all_bases)
    (stops_in_folder is c.in_err-deliver_entries.ensures.causes given prefix look.0 look.1 _ _ refl
    (all_ran look.0 _ c.new-calls.ensures look.3.0 begin.2 listed look.2 begin.1 delivers.ran))

pub returns-in_err-ended-2 : goal.returns-in_err-ended-2
returns-in_err-ended-2 g c =
    let is = c.from_residual-in_err-ended-2.ensures.1 in
    let i = c.pieces.invariant in
    let given = i.given ++ c.pieces.whole.items in
    let look = c.in_ok-listings.ensures.ran in
    let begin = c.in_ok-engine.ensures.ran in
    let prefix = given_prefix _ _ _ _ _ _ given i.gave in
    let few = prefix_few prefix in
    let listed = tells_listed _ _ _ look.0 (bodies_of given) c.in_ok-engine.ensures.there look.3.1 look.3.2 in
    let delivers = one_batch i.given _ _ _
    c.deref.ensures.value few c.requires i.delivers c.in_ok-deliver_entries.ensures.delivers in
    let stop = c.in_err-ended-2.ensures.refused _ _ given (rw c.if-ended.false at i.gave) in
    converts c.requires (g.met.F.Folder.quiet_is_honest c.args.folder.now all_bases)
    (stops is stop.refused (inl c.in_err-ended-2.ensures.causes)
    (λ e. absurd (omega (arith, ap length (stop.none e), i.begun c.if-ended.false))) given stop.prefix look.0 look.1 _ _ refl
    (ran_stop c.in_err-ended-2.ensures.causes (all_ran look.0 _ c.new-calls.ensures look.3.0 begin.2 listed look.2 begin.1 delivers.ran)))

pub returns-then-ended : goal.returns-then-ended
returns-then-ended g c =
    let i = c.pieces.invariant in
    let given = i.given ++ c.pieces.whole.items in
    let entries = c.deref.result.now in
    let look = c.in_ok-listings.ensures.ran in
    let begin = c.in_ok-engine.ensures.ran in
    let counts = c.in_ok-engine.ensures.counts in
    let prefix = given_prefix _ _ _ _ _ _ given i.gave in
    let few = prefix_few prefix in
    let listed = tells_listed _ _ _ look.0 (bodies_of given) c.in_ok-engine.ensures.there look.3.1 look.3.2 in
    let delivers = one_batch i.given _ entries _
    c.deref.ensures.value few c.requires i.delivers c.in_ok-deliver_entries.ensures.delivers in
    let count = batch_count _ _ i.given
    _ entries i.count c.in_ok-deliver_entries.ensures.all c.deref.ensures.value in
    converts c.requires (g.met.F.Folder.quiet_is_honest c.args.folder.now all_bases)
    (record {
      given = given;
      prefix = prefix;
      whole = rw c.if-ended.true at i.gave;
      refused = tt;
      untouched = λ e. absurd (cc);
      causes = tt;
      names = look.0;
      few = look.1;
      made = c.deliver_entries.new.self.calls.made;
      ran = all_ran look.0 _ c.new-calls.ensures look.3.0 begin.2 listed look.2 begin.1 delivers.ran;
      tells =
          report_tells look.0 given _ _ _ _ _ listed count counts.1 (delivers.placed_are refl)
          c.report.ensures.messages c.report.ensures.there c.report.ensures.placed
          (c.report.ensures.swept ∙ delivers.swept ∙ rw look.3.0 at counts.2);
    })
