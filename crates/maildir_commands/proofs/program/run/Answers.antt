use Rattle.std.proofs.Common.{refl, sym, ◌∙◌, rules}
use Rattle.std.specs.Io.Buffered.{writer_contents}
use Rattle.maildir_commands.proofs.Common.{Keeps-refl}
use Rattle.maildir_commands.proofs.Ending.{ran_done, ran_stopped, ran_wrong}
use Rattle.maildir_commands.proofs.Requests.{of_command, serves_both}
use Rattle.maildir_commands.proofs.program.run.Goals.{in-Write, in-Convert}
use Rattle.maildir_commands.proofs.program.run.Goals as goal

-- it is done
pub returns-in-Ok-clause-ran : goal.returns-in-Ok-clause-ran
returns-in-Ok-clause-ran g c =
    let flush = c.flush.ensures in
    ran_done g.M.Machine.at c.in-Some.ensures (serves_both _ _ _ (writer_contents g.W.Write.contents c.match-command.out) _ flush.same
    c.match-command.answer c.flush.result (sym c.in-Ok.is ∙ c.and.ensures) flush.causes (elim c.match-command.branch [
      | in-Write w ↦ rw (w.machine-is, w.input-is, w.out-is, w.answer-is) (of_command w.in-Write.is w.write_out-answer.ensures.does)
      | in-Convert w ↦ rw (w.machine-is, w.input-is, w.out-is, w.answer-is) (of_command w.in-Convert.is w.deliver_sources-answer.ensures.does)
    ])) (Keeps-refl _)

-- it ended with a fault
pub returns-in-Err-clause-ran : goal.returns-in-Err-clause-ran
returns-in-Err-clause-ran g c =
    let flush = c.flush.ensures in
    ran_stopped g.M.Machine.at c.in-Some.ensures (serves_both _ _ _ (writer_contents g.W.Write.contents c.match-command.out) _ flush.same
    c.match-command.answer c.flush.result (sym c.in-Err.is ∙ c.and.ensures) flush.causes (elim c.match-command.branch [
      | in-Write w ↦ rw (w.machine-is, w.input-is, w.out-is, w.answer-is) (of_command w.in-Write.is w.write_out-answer.ensures.does)
      | in-Convert w ↦ rw (w.machine-is, w.input-is, w.out-is, w.answer-is) (of_command w.in-Convert.is w.deliver_sources-answer.ensures.does)
    ])) (c.tell_fault.result, c.tell_fault.ensures.told)

-- the words are wrong
pub returns-in_default-clause-ran : goal.returns-in_default-clause-ran
returns-in_default-clause-ran g c = ran_wrong g.M.Machine.at (search rules) (c.tell_wrong_words.result, c.tell_wrong_words.ensures.told) refl
