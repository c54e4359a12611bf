use Rattle.std.proofs.Common.{Some, ap}
use Rattle.vectors.proofs.Broken.{on_err, possible}
use Rattle.vectors.proofs.rewriting.rewrite_broken.Goals as goal

pub returns : goal.returns
returns c =
    on_err c.rewrite.result _ _
    (λ prefix entries read. prefix c.args.text.now entries
    (possible c.args.text.now _ _ _ c.rewrite.ensures.budget (rw c.broken-source.ensures.fails (ap Some c.broken-source.ensures.text))) read)
    c.rewrite.ensures.prefix
