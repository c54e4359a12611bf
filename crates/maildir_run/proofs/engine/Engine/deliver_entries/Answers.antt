use Rattle.std.proofs.Common.{◌+◌, ◌<◌, [], ◌++◌, length, take, drop, arith, refl, rules}
use Rattle.maildir_run.proofs.Common.{bodies_of}
use Rattle.maildir_run.proofs.Run.Batches.{bodies_next, bodies_split, few_next}
use Rattle.maildir_run.proofs.Run.Delivering.{delivers_none, delivers_then, delivers_before}
use Rattle.maildir_run.proofs.engine.Engine.deliver_entries.Goals as goal

pub loop-entry-init : goal.loop-entry-init
loop-entry-init g c = search (rules, delivers_none)

pub returns-in_err-deliver-clause-delivers : goal.returns-in_err-deliver-clause-delivers
returns-in_err-deliver-clause-delivers g c = λ bodies named few.
    let i = c.loop-entry.entry-index in
    let entries = c.args.entries.now in
    let entry = c.entry-item.result in
    let lt : i < length entries = c.loop-entry-test.true in
    let before = c.loop-entry.invariant in
    let first = before.delivers bodies named few in
    let then = rw c.as_slice.ensures at (c.in_err-deliver.ensures.delivers (bodies ++ bodies_of (take i entries))
    (first.named refl) (few_next entries i entry lt c.entry-item.is bodies few)) in
    rw (bodies_split entries i entry lt c.entry-item.is [])
    (delivers_before _ (bodies_of (drop (i + 1) entries)) c.from_residual.ensures.1 (delivers_then first then))

pub loop-entry-preserved : goal.loop-entry-preserved
loop-entry-preserved g c =
    let i = c.loop-entry.entry-index in
    let entries = c.args.entries.now in
    let entry = c.entry-item.result in
    let lt : i < length entries = c.loop-entry-test.true in
    let before = c.loop-entry.invariant in
    let count = before.count in
    let one = c.in_ok-deliver.ensures.one in
    record {
      delivers = λ bodies named few.
          let first = before.delivers bodies named few in
          let then = rw c.as_slice.ensures at (c.in_ok-deliver.ensures.delivers (bodies ++ bodies_of (take i entries))
          (first.named refl) (few_next entries i entry lt c.entry-item.is bodies few)) in
          rw (bodies_next entries i entry lt c.entry-item.is []) (delivers_then first then);
      count = omega arith;
    }
