use Rattle.maildir_disk.specs.SeenSystem.{Looks}
use Rattle.maildir_disk.proofs.one_moment.names_of_one_moment.Given as goal

-- only other programs acted, and none if the system is quiet
abbrev pub invariant-loop : goal.invariant-loop
invariant-loop g l = Looks (g.S.System.at l.fn.system) (g.S.System.at l.system)
