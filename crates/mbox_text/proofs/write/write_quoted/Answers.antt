use Rattle.std.proofs.Common.{[], ◌∷◌}
use Rattle.mbox_text.proofs.Written.Appended.{wrote, broke}
use Rattle.mbox_text.proofs.write.write_quoted.Goals as goal

pub returns-in_err-write_bytes-clause-written : goal.returns-in_err-write_bytes-clause-written
returns-in_err-write_bytes-clause-written g c = broke _ _ _ _ _ c.from_residual.ensures.0 c.in_err-write_bytes.ensures.written

pub returns-clause-written : goal.returns-clause-written
returns-clause-written g c = wrote c.write_bytes-2.result _ _ _ (62 ∷ []) _ c.in_ok-write_bytes.ensures.written c.write_bytes-2.ensures.written
