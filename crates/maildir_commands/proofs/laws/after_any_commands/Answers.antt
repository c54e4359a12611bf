use Rattle.maildir_commands.proofs.AnyCommands.{kept, promised, sound_new}
use Rattle.maildir_commands.proofs.laws.after_any_commands.Goals as goal

pub returns-clause-begins : goal.returns-clause-begins
returns-clause-begins g c = λ spared maildir texts old new. sound_new new

pub returns-clause-promised : goal.returns-clause-promised
returns-clause-promised g c = λ spared maildir texts episodes old new any.
    promised spared g.M.Machine.at (λ machine. g.met.M.Machine.same_maildir machine spared) g.met.M.Machine.same_paths maildir texts any

pub returns-clause-kept : goal.returns-clause-kept
returns-clause-kept g c = λ spared maildir texts earlier later old mid new any more uncut.
    kept spared g.M.Machine.at (λ machine. g.met.M.Machine.same_maildir machine spared) g.met.M.Machine.same_paths maildir texts any later new more uncut
