use Rattle.std.proofs.Common.{ℕ, ◌++◌, List, take, sym, subst}
use Rattle.maildir_run.proofs.Common.{Entry, IsFromLine}
use Rattle.mbox_text.proofs.FromLine.FromLines.{from_line-at}
use Rattle.maildir_run.proofs.Output.TableRows.{listed_to_more, listed_to_prefix, lists_broken, room}
use Rattle.maildir_run.proofs.outputs.table.ListerPrinter.print.Goals as goal

pub list_one-requires : goal.list_one-requires
list_one-requires g c =
    let F : Entry → Type 0 = λ e. IsFromLine e.from_line in
    subst F (sym c.entry-item.is) (from_line-at _ _ c.entry-item.result c.requires c.loop-entry-test.true)

pub loop-entry-preserved : goal.loop-entry-preserved
loop-entry-preserved g c = λ given h l.
    let entries : List Entry = c.args.entries.now in
    let i : ℕ = c.loop-entry.entry-index in
    let t = c.loop-entry.invariant given h l in
    let s = c.in_ok-list_one.ensures.lists (given ++ take i entries) t.has_listed (room given entries i c.entry-item.result c.loop-entry-test.true l) in
    listed_to_more given entries i c.entry-item.result _ _ _ _ _ _ _ s.0 c.loop-entry-test.true c.entry-item.is t s.1 s.2 s.3

pub returns-in_err-list_one-clause-prints : goal.returns-in_err-list_one-clause-prints
returns-in_err-list_one-clause-prints g c = λ given h l.
    let entries : List Entry = c.args.entries.now in
    let i : ℕ = c.loop-entry.entry-index in
    let t = c.loop-entry.invariant given h l in
    let s = c.in_err-list_one.ensures.lists (given ++ take i entries) t.has_listed (room given entries i c.entry-item.result c.loop-entry-test.true l) in
    lists_broken _ given entries _ _ _ c.from_residual.ensures.0
    (listed_to_prefix given entries i c.entry-item.result _ _ _ _ _ s.0 c.loop-entry-test.true c.entry-item.is t s.1 s.2)
