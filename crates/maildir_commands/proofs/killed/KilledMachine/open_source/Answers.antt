use Rattle.maildir_commands.proofs.Killing.{source_none, source_opened, source_refused}
use Rattle.maildir_commands.proofs.killed.KilledMachine.open_source.Goals as goal

pub returns-in_err-begin : goal.returns-in_err-begin
returns-in_err-begin g c = source_none (g.M.Machine.at c.args.self.now.inner) c.from_residual.result c.from_residual.ensures.0

pub returns-in_err-source : goal.returns-in_err-source
returns-in_err-source g c = source_refused c.from_residual-in_err-source.result c.from_residual-in_err-source.ensures.0 c.open_source.ensures

pub returns : goal.returns
returns g c = source_opened c.new.ensures c.in_ok-source.ensures
