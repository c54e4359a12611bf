use Rattle.std.proofs.Common.{inl}
use Rattle.maildir_run.proofs.Memory.Followed.{quiet_fault}
use Rattle.maildir_memory.proofs.Plain.{only_memory, reads}
use Rattle.maildir_memory.proofs.plain_system.PlainSystemSystem.names.Goals as goal

pub returns-in-Ok-clause-reads : goal.returns-in-Ok-clause-reads
returns-in-Ok-clause-reads c =
    let old = c.args.self.now in
    let quietly = rw c.in-Ok.is at c.list.ensures.lists.call.quietly in
    let names = rw c.in-Ok.is at c.list.ensures.lists.names in
    reads old c.list.new.self c.list.ensures.scripted.script.lines (λ h. (quietly h).1) c.args.sub _ (λ h. inl (names h)) names

pub returns-in-Err-clause-reads : goal.returns-in-Err-clause-reads
returns-in-Err-clause-reads c =
    let old = c.args.self.now in
    reads old c.list.new.self c.list.ensures.scripted.script.lines (λ h. rw c.in-Err.is at (quiet_fault _ _ _ _ h c.list.ensures.scripted))
    c.args.sub _ (λ h. tt) (λ h. tt)

pub returns-in-Err-clause-causes : goal.returns-in-Err-clause-causes
returns-in-Err-clause-causes c = λ none. c.error_of.ensures.memory.1 (only_memory _ _ _ _ c.in-Err.ensures.scripted none tt)

pub returns-in-Ok-clause-script : goal.returns-in-Ok-clause-script
returns-in-Ok-clause-script c = c.list.ensures.scripted.script

pub returns-in-Err-clause-script : goal.returns-in-Err-clause-script
returns-in-Err-clause-script c = c.list.ensures.scripted.script
