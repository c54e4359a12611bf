use Rattle.std.proofs.Common.{length, ap, ◌∙◌}
use Rattle.maildir_run.proofs.Common.{sender}
use Rattle.maildir_run.proofs.Output.TableRows.{row-is}
use Rattle.maildir_run.proofs.outputs.row.row_of.Goals as goal

pub returns : goal.returns
returns c =
    row-is _ _ _ _ _ _
    _ _ _ c.in_ok-prefix.ensures
    (ap length c.as_slice.ensures) (c.in_ok-row.ensures.items ∙ c.as_bytes.ensures.value)
    (c.sender_of.ensures ∙ ap sender c.as_slice-2.ensures) c.in_ok-add_sender.ensures
    c.in_ok-push.ensures.items
