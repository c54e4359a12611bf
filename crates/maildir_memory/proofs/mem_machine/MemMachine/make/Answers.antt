use Rattle.std.proofs.Common.{◌≡◌, ℕ, List, Option, None, Some, string_bytes, refl, sym, subst, ◌∙◌}
use Rattle.std.proofs.lemmas.Map.Text.{btree_map_updates_text}
use Rattle.std.specs.BTreeMap.{get_by_text}
use Rattle.std.specs.Map.{update}
use Rattle.std.specs.Str.{bytes_eq}
use Rattle.maildir_run.specs.declared.folder.FolderFault.TheVariants.{Failed, OutOfMemory}
use Rattle.maildir_disk.specs.declared.faults.OpenFault.TheVariants.{Folder}
use Rattle.maildir_memory.specs.MemMachines.{IsNotMade}
use Rattle.maildir_memory.specs.declared.mem_system.MemSystem.{MemSystem}
use Rattle.maildir_memory.proofs.mem_machine.MemMachine.make.Goals as goal

pub returns-in_default-clause-makes : goal.returns-in_default-clause-makes
returns-in_default-clause-makes c = record {
  made = tt;
  refused = subst (λ (fresh : Option MemSystem). IsNotMade fresh (Folder Failed)) (sym (sym c.take.ensures.value ∙ c.in_default.is)) refl;
  kept = λ word. refl;
  used = c.take.ensures.after;
}

pub returns-in_default-from_str-clause-makes : goal.returns-in_default-from_str-clause-makes
returns-in_default-from_str-clause-makes c = record {
  made = tt;
  refused = subst (λ (fresh : Option MemSystem). IsNotMade fresh (Folder OutOfMemory)) (sym (sym c.take.ensures.value ∙ c.in-Some.is)) refl;
  kept = λ word. refl;
  used = c.take.ensures.after;
}

pub returns-in_default-insert-clause-makes : goal.returns-in_default-insert-clause-makes
returns-in_default-insert-clause-makes c = record {
  made = tt;
  refused = subst (λ (fresh : Option MemSystem). IsNotMade fresh (Folder OutOfMemory)) (sym (sym c.take.ensures.value ∙ c.in-Some.is)) refl;
  kept = λ word. rw c.in_default-insert.ensures.err refl;
  used = c.take.ensures.after;
}

pub returns-clause-makes : goal.returns-clause-makes
returns-clause-makes c =
    let old = c.args.self.now.maildirs in
    let new = c.insert.new.self in
    record {
      made = (
        sym c.take.ensures.value ∙ c.in-Some.is,
        subst (λ (bytes : List ℕ). (word : List ℕ) → get_by_text new word ≡ update bytes_eq (get_by_text old) bytes (Some None) word)
            (c.in-Ok.ensures.ok ∙ c.without_slash.ensures)
            (btree_map_updates_text (string_bytes c.in-Ok.word) old new (Some None) c.in-Ok-insert.ensures.updates),
      );
      refused = tt;
      kept = tt;
      used = c.take.ensures.after;
    }
