-- The machine of plain data at one moment of the history: its Maildir has some of the files, and a power cut leaves these.
use Rattle.std.proofs.Common.{◌≡◌, ◌⊎◌, ℕ, Bool, List, [], Option, None, length, Contains, ap, subst, inl, inr, arith}
use Rattle.maildir_run.specs.Delivery.{IsSoundAt, Message}
use Rattle.maildir_run.specs.Files.{Files, Spared, homes}
use Rattle.maildir_run.specs.declared.in_memory.mem_folder.MemFolder.{MemFolder}
use Rattle.maildir_disk.proofs.Left.LeftHomes.{first_or, missing_intact, none_in}
use Rattle.maildir_disk.specs.PowerCuts.{IsIntact}
use Rattle.maildir_commands.specs.Machines.{HeldMaildir}
use Rattle.maildir_memory.specs.declared.plain_system.PlainSystem.{PlainSystem}

abbrev folder_with : MemFolder → Files → MemFolder
folder_with folder s = record folder { files = record folder.files { in_tmp = s.tmp; in_new = s.new; in_cur = s.cur } }

-- a Maildir with these files, and what is kept of those when it was last synced; a power cut leaves it, or may take it away
abbrev pub system_as : PlainSystem → (now : Files) → (durable : Option MemFolder) → Bool → PlainSystem
system_as system now durable rooted = record system {
  folder = folder_with system.folder now;
  durable = durable;
  is_rooted = rooted;
}

-- all of its files were synced
abbrev pub system_with : PlainSystem → Files → Bool → PlainSystem
system_with system s rooted = system_as system s None rooted

pub sound_intact : (spared : Spared) (s : Files) (o : Message) → IsSoundAt s o → IsIntact spared s o
sound_intact spared s o (inl none) = missing_intact o s none
sound_intact spared s o (inr home) = record {
  holds = λ bytes has. elim (first_or [] (subst (λ h. Contains h bytes) home has)) as (λ _. bytes ≡ o.body) [
    | inl is ↦ is
    | inr more ↦ absurd (none_in more)
  ];
  once = λ whole. let e = ap length home in omega (arith, e);
}

-- of these files each base has what it has of those, or no home; and a power cut leaves them as they are
pub record IsPart (all : Files) (h : HeldMaildir) : Type 0 where
  pub within : (b : List ℕ) → (homes h.files b ≡ []) ⊎ (homes h.files b ≡ homes all b)
  pub only : (left : Files) → h.may_leave left → left ≡ h.files
  pub stays : h.may_leave h.files
