use Rattle.maildir_commands.proofs.Requests.{of_form}
use Rattle.maildir_commands.proofs.program.write_text.Goals as goal

pub returns-in-Regular : goal.returns-in-Regular
returns-in-Regular g c = of_form c.in-Regular.is c.rewrite.ensures

pub returns-in-List : goal.returns-in-List
returns-in-List g c = of_form c.in-List.is c.list_text.ensures
