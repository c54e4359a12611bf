use Rattle.mbox_text.proofs.Common.{arith, MatchResult-from_err}
use Rattle.mbox_text.proofs.Written.WrittenBody.{written_none, written_found, written_line, written_prefix, written_rest, found_part, line_part}
use Rattle.mbox_text.proofs.write.write_body.Goals as goal

pub loop-n-init : goal.loop-n-init
loop-n-init g c = written_none

pub loop-n-preserved : goal.loop-n-preserved
loop-n-preserved g c =
    let w = written_found c.loop-n.invariant c.in-Some.ensures c.in_ok-write_bytes.ensures.written in
    written_line _
    w c.in-Some.ensures c.line_len-len.ensures c.in_ok-write_quoted.ensures.written

pub returns-in_err-write_bytes-clause-written : goal.returns-in_err-write_bytes-clause-written
returns-in_err-write_bytes-clause-written g c =
    MatchResult-from_err c.from_residual.result _ _ c.from_residual.ensures.0
    (λ _. written_prefix _ c.loop-n.invariant (found_part _ _ _ c.in-Some.ensures) c.in_err-write_bytes.ensures.written)

pub returns-in_err-write_quoted-clause-written : goal.returns-in_err-write_quoted-clause-written
returns-in_err-write_quoted-clause-written g c =
    let w = written_found c.loop-n.invariant c.in-Some.ensures c.in_ok-write_bytes.ensures.written in
    let part = line_part _ _ _ _ c.in-Some.ensures c.line_len-len.ensures in
    MatchResult-from_err c.from_residual-in_err-write_quoted.result _ _ c.from_residual-in_err-write_quoted.ensures.0
    (λ _. written_prefix _ w part c.in_err-write_quoted.ensures.written)

pub returns-clause-written : goal.returns-clause-written
returns-clause-written g c = grind (arith, written_rest)
