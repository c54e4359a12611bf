use Rattle.std.proofs.Common.{refl, subst, sym, true, IsTrue}
use Rattle.maildir_memory.proofs.Plain.{asks, synced}
use Rattle.maildir_memory.proofs.plain_system.PlainSystemSystem.sync_root.Goals as goal
use Rattle.maildir_memory.specs.declared.plain_system.PlainSystem.{PlainSystem}

pub returns-clause-asks : goal.returns-clause-asks
returns-clause-asks c = asks _ (synced c.args.self.now c.sync.new.self true c.sync.ensures (λ rooted. refl))

pub returns-clause-rooted : goal.returns-clause-rooted
returns-clause-rooted c = λ spared h. subst (λ (s : PlainSystem). IsTrue s.is_rooted) (sym c.sync.ensures) refl
