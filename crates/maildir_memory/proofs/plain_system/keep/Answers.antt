use Rattle.std.proofs.Common.{refl}
use Rattle.maildir_memory.proofs.plain_system.keep.Goals as goal

pub returns-in-Some-clause-kept : goal.returns-in-Some-clause-kept
returns-in-Some-clause-kept c = λ changed. rw c.in-Some.is refl

pub returns-in-Ok-clause-kept : goal.returns-in-Ok-clause-kept
returns-in-Ok-clause-kept c = λ changed. rw c.in-None.is c.in-Ok.ensures.files

pub returns-in-Err-clause-causes : goal.returns-in-Err-clause-causes
returns-in-Err-clause-causes c = (c.error_of.ensures.memory.1 c.in-Err.ensures.refused, c.in-None.is)
