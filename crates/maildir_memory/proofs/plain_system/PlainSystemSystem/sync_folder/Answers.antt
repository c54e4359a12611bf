use Rattle.maildir_run.specs.Folders.{folder_of_place}
use Rattle.maildir_memory.proofs.Plain.{asks, names_kept, synced}
use Rattle.maildir_memory.proofs.plain_system.PlainSystemSystem.sync_folder.Goals as goal

pub returns-clause-asks : goal.returns-clause-asks
returns-clause-asks c =
    let old = c.args.self.now in asks _ (synced old c.sync.new.self old.is_rooted c.sync.ensures (λ rooted. rooted))

pub returns-clause-names : goal.returns-clause-names
returns-clause-names c = λ spared h.
    let old = c.args.self.now in names_kept old c.sync.new.self old.is_rooted c.sync.ensures (folder_of_place c.args._place)
