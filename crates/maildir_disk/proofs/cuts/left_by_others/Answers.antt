use Rattle.std.proofs.Common.{rules}
use Rattle.maildir_disk.proofs.Left.LeftHomes.{all_beside, all_bodies, all_intact}
use Rattle.maildir_disk.proofs.cuts.left_by_others.Goals as goal

pub returns-clause-intact : goal.returns-clause-intact
returns-clause-intact c = search (rules, all_beside, all_intact)

pub returns-clause-bodies : goal.returns-clause-bodies
returns-clause-bodies c = search (rules, all_beside, all_bodies)
