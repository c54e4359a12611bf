use Rattle.std.proofs.Common.{◌≡◌, ◌+◌, [], ◌∷◌, length, arith, ap, ◌∙◌, length-append}
use Rattle.maildir_run.proofs.Common.{length-map, Entry, message_row}
use Rattle.maildir_run.proofs.Output.TableRows.{bodies, lists_none, lists_err, table-push, listed_more}
use Rattle.maildir_run.proofs.outputs.table.Lister.list_one.Goals as goal

pub returns-in_default-clause-lists : goal.returns-in_default-clause-lists
returns-in_default-clause-lists g c = λ given h l. let n = lists_none given (c.args.entry.now ∷ []) (g.W.Write.contents c.args.out.now) in (n.0, n.1, n.2, tt)

pub returns-in_err-row-clause-lists : goal.returns-in_err-row-clause-lists
returns-in_err-row-clause-lists g c = λ given h l.
    lists_err _ given (c.args.entry.now ∷ []) (g.W.Write.contents c.args.out.now) _ c.from_residual.ensures.0

pub returns-in-Ok-write_bytes-clause-lists : goal.returns-in-Ok-write_bytes-clause-lists
returns-in-Ok-write_bytes-clause-lists g c = λ given h l.
    let entry : Entry = c.args.entry.now in
    let size : length (bodies given) ≡ length given = length-map given (λ e. e.body) in
    let next = c.in-Ok.ensures.next (bodies given) h.named (omega (arith, l, size, length-append given (entry ∷ []))) in
    let count : c.saturating_add-self.result ≡ length given + 1 =
    omega (arith, c.saturating_add-self.ensures, h.count_is, l, length-append given (entry ∷ [])) in
    let line : c.deref.result.now ≡ message_row (length given + 1) entry c.in-Ok.target =
    c.deref.ensures.value ∙ c.in_ok-row.ensures ∙ ap (λ k. message_row k entry c.in-Ok.target) count in (
      message_row (length given + 1) entry c.in-Ok.target,
      table-push given entry _ (rw c.as_slice.ensures at next.0),
      rw line at c.in-Ok-write_bytes.ensures.written,
      listed_more entry h c.as_slice.ensures next.1 count,
    )

pub returns-clause-lists : goal.returns-clause-lists
returns-clause-lists g c = grind (arith, bodies, length-map, length-append, table-push)
