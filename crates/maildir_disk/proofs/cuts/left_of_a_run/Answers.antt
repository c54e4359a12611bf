use Rattle.maildir_disk.proofs.Left.LeftHomes.{all_bodies, all_intact}
use Rattle.maildir_disk.proofs.Left.LeftTasks.{texts_hold}
use Rattle.maildir_disk.proofs.cuts.left_of_a_run.Goals as goal

pub returns-clause-intact : goal.returns-clause-intact
returns-clause-intact c = λ spared t ms others names before now answer are small ran named alike.
    all_intact spared others before now (texts_hold spared t ms are small names before answer now ran others named alike)

pub returns-clause-bodies : goal.returns-clause-bodies
returns-clause-bodies c = λ spared t ms others names before now answer are small ran named alike.
    all_bodies spared others before now (texts_hold spared t ms are small names before answer now ran others named alike)
