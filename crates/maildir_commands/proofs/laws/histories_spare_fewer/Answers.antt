use Rattle.maildir_commands.proofs.Fewer.{fewer_cut, fewer_history}
use Rattle.maildir_commands.proofs.laws.histories_spare_fewer.Goals as goal

pub returns-clause-cut : goal.returns-clause-cut
returns-clause-cut g c = λ fewer more maildir old new within as_whole. fewer_cut within as_whole _ _

pub returns-clause-history : goal.returns-clause-history
returns-clause-history g c = λ fewer more maildir texts episodes old new within as_whole.
    fewer_history within as_whole g.M.Machine.at (λ machine. g.met.M.Machine.fewer_honest machine fewer more within) maildir texts episodes old new
