use Rattle.std.proofs.Common.{◌≡◌, ◌==◌, true, false, [], cond, get_or, refl, sym, ap, ◌∙◌, eq-eqb, ne_eqb, arith}
use Rattle.maildir_run.proofs.Common.{files_in}
use Rattle.maildir_run.proofs.Memory.Scripts.{on_err, lines_more, lines_cut}
use Rattle.maildir_run.proofs.in_memory.mem_files.MemFiles.act_before.Goals.{then-line-call+in_ok-perform_all, else-line-call}
use Rattle.maildir_run.proofs.in_memory.mem_files.MemFiles.act_before.Goals as goal

pub returns-in_err-perform_all-clause-err : goal.returns-in_err-perform_all-clause-err
returns-in_err-perform_all-clause-err c =
    let i = c.loop-line.line-index in
    let line = get_or c.args.lines.now i c.line-item.result in
    let same : line.call ≡ c.args.call = grind arith in
    let on : line.call == c.args.call ≡ true = eq-eqb line.call c.args.call same in
    grind (arith, on_err, lines_cut)

pub loop-line-preserved : goal.loop-line-preserved
loop-line-preserved c =
    let i = c.loop-line.line-index in
    let line = get_or c.args.lines.now i c.line-item.result in
    let more = lines_more c.args.call c.args.lines.now c.line-item.result in
    let same : line.call ≡ c.line-item.result.call = ap (λ l. l.call) (sym c.line-item.is) in
    elim c.if-line-call.branch [
      | then-line-call+in_ok-perform_all w ↦
          let on : line.call == c.args.call ≡ true = eq-eqb line.call c.args.call (same ∙ w.if-line-call.true) in
          let here : cond (line.call == c.args.call) line.acts.items [] ≡ w.deref.result.now =
          rw on (ap (λ l. l.acts.items) (sym c.line-item.is) ∙ sym w.deref.ensures.value) in
          more w.deref.result.now (files_in c.args.self.now) (files_in c.loop-line.self)
          (files_in c.if-line-call.self) c.loop-line-test.true here c.loop-line.invariant
          (ap files_in w.self-is ∙ w.in_ok-perform_all.ensures.ok)
      | else-line-call w ↦
          let off : line.call == c.args.call ≡ false = ne_eqb line.call c.args.call (λ e. w.if-line-call.false (sym same ∙ e)) in
          let here : cond (line.call == c.args.call) line.acts.items [] ≡ [] = rw off refl in
          more [] (files_in c.args.self.now) (files_in c.loop-line.self) (files_in c.if-line-call.self) c.loop-line-test.true here c.loop-line.invariant
          (ap files_in w.self-is)
    ]
