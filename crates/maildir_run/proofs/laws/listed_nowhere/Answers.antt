use Rattle.maildir_run.proofs.Call.ListedNowhere.{listed_twice}
use Rattle.maildir_run.proofs.laws.listed_nowhere.Goals as goal

pub returns : goal.returns
returns c = λ spared b s t u v in_new in_cur actions named first between second off_new off_cur.
    listed_twice spared b named s t u v in_new in_cur actions first between second off_new off_cur
