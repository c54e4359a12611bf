use Rattle.std.proofs.Common.{[], ◌∷◌, refl}
use Rattle.maildir_memory.proofs.Histories.Example.{example, example_has_two, is_example, two_of}
use Rattle.maildir_memory.proofs.Histories.Happening.{can_happen, can_happen_to_one}
use Rattle.maildir_memory.proofs.plain_machine.PlainMachine.losing.Goals as goal

pub returns-clause-happens : goal.returns-clause-happens
returns-clause-happens c = λ mailbox gone rest whole are first given.
    can_happen mailbox are gone rest first _ c.new.result c.new.ensures.fresh.quiet given whole c.new.ensures.fresh refl

pub returns-clause-to_one : goal.returns-clause-to_one
returns-clause-to_one c = λ mailbox gone rest are first given.
    can_happen_to_one mailbox are gone rest first _ c.new.result c.new.ensures.fresh.quiet given c.new.ensures.fresh refl

pub returns-clause-example : goal.returns-clause-example
returns-clause-example c = λ given.
    let (gone, kept, both) = two_of example.messages example_has_two in
    (example, gone, kept, both, λ whole. returns-clause-happens c example gone (kept ∷ []) whole is_example both given)
