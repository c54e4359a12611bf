use Rattle.maildir_commands.proofs.Killing.{killed_did, killed_ran}
use Rattle.maildir_commands.proofs.killed.run_killed.Goals as goal
use Rattle.maildir_commands.specs.Killed.{inside}

pub returns-clause-ran : goal.returns-clause-ran
returns-clause-ran g c = λ after out form errors. killed_ran g.M.Machine.at inside c.run.ensures.ran out errors form

pub returns-clause-did : goal.returns-clause-did
returns-clause-did g c = λ after out. killed_did g.M.Machine.at inside c.run.ensures.ran out
