use Rattle.maildir_run.proofs.Chains.MessageLemmas.{text_named, text_distinct}
use Rattle.maildir_run.proofs.laws.messages_have_bases.Goals as goal

pub returns-clause-named : goal.returns-clause-named
returns-clause-named c = text_named

pub returns-clause-distinct : goal.returns-clause-distinct
returns-clause-distinct c = text_distinct
