use Rattle.maildir_commands.proofs.Killing.{maildir_none, maildir_opened, maildir_refused}
use Rattle.maildir_commands.proofs.killed.KilledMachine.open_maildir.Goals as goal

pub returns-then-is_err : goal.returns-then-is_err
returns-then-is_err g c = maildir_none (g.M.Machine.at c.args.self.now.inner)

pub returns-in_err-maildir : goal.returns-in_err-maildir
returns-in_err-maildir g c = maildir_refused c.from_residual.result c.from_residual.ensures.0 c.in_err-maildir.ensures

pub returns : goal.returns
returns g c = maildir_opened c.new.ensures c.in_ok-maildir.ensures
