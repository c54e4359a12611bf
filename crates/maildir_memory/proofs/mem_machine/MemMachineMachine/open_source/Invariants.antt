use Rattle.std.proofs.Common.{◌≡◌, drop}
use Rattle.maildir_memory.specs.MemMachines.{has_text, text_under}
use Rattle.maildir_memory.proofs.mem_machine.MemMachineMachine.open_source.Given as goal

abbrev pub invariant-loop-named : goal.invariant-loop-named
invariant-loop-named l =
    (text_under l.texts l.path ≡ text_under (drop l.named-index l.texts) l.path)
    × (has_text l.texts l.path ≡ has_text (drop l.named-index l.texts) l.path)
