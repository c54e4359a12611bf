use Rattle.mbox_text.proofs.Common.{◌∙◌, ap, refl, missing_end}
use Rattle.mbox_text.proofs.Written.Appended.{wrote, broke}
use Rattle.mbox_text.proofs.Written.WrittenEntry.{spelling_parts}
use Rattle.mbox_text.proofs.write.write_entry.Goals as goal

pub returns-in_err-write_bytes-clause-written : goal.returns-in_err-write_bytes-clause-written
returns-in_err-write_bytes-clause-written g c =
    let r = c.from_residual in
    rw (spelling_parts c.args.entry.now c.as_slice.ensures refl refl) (broke r.result _ _ _ _ r.ensures.0 c.in_err-write_bytes.ensures.written)

pub returns-in_err-write_bytes-2-clause-written : goal.returns-in_err-write_bytes-2-clause-written
returns-in_err-write_bytes-2-clause-written g c =
    let r = c.from_residual-in_err-write_bytes-2 in
    rw (spelling_parts c.args.entry.now c.as_slice.ensures refl refl)
    (wrote r.result _ _ _ _ _ c.in_ok-write_bytes.ensures.written (broke r.result _ _ _ _ r.ensures.0 c.in_err-write_bytes-2.ensures.written))

pub returns-in_err-write_body-clause-written : goal.returns-in_err-write_body-clause-written
returns-in_err-write_body-clause-written g c =
    let r = c.from_residual-in_err-write_body in
    rw (spelling_parts _ c.as_slice.ensures c.as_slice-2.ensures refl)
    (wrote r.result _ _ _ _ _ c.in_ok-write_bytes.ensures.written (wrote r.result _ _ _ _ _ c.in_ok-write_bytes-2.ensures.written
    (broke r.result _ _ _ _ r.ensures.0 c.in_err-write_body.ensures.written)))

pub returns-in_err-write_bytes-3-clause-written : goal.returns-in_err-write_bytes-3-clause-written
returns-in_err-write_bytes-3-clause-written g c =
    let r = c.from_residual-in_err-write_bytes-3 in
    rw (spelling_parts _ c.as_slice.ensures c.as_slice-2.ensures (c.missing_end.ensures ∙ ap missing_end c.as_slice-3.ensures))
    (wrote r.result _ _ _ _ _ c.in_ok-write_bytes.ensures.written (wrote r.result _ _ _ _ _ c.in_ok-write_bytes-2.ensures.written
    (wrote r.result _ _ _ _ _ c.in_ok-write_body.ensures.written (broke r.result _ _ _ _ r.ensures.0 c.in_err-write_bytes-3.ensures.written))))

pub returns-clause-written : goal.returns-clause-written
returns-clause-written g c =
    let r = c.write_bytes-4.result in
    rw (spelling_parts _ c.as_slice.ensures c.as_slice-2.ensures (c.missing_end.ensures ∙ ap missing_end c.as_slice-3.ensures))
    (wrote r _ _ _ _ _ c.in_ok-write_bytes.ensures.written (wrote r _ _ _ _ _ c.in_ok-write_bytes-2.ensures.written
    (wrote r _ _ _ _ _ c.in_ok-write_body.ensures.written (wrote r _ _ _ _ _ c.in_ok-write_bytes-3.ensures.written c.write_bytes-4.ensures.written))))
