-- The path at which a Maildir on the file system was opened.
use Rattle.std.specs.Prelude.{ℕ, List}
use Rattle.std.specs.String.{string_bytes}
use Rattle.maildir_calls.specs.declared.maildir.MaildirAt.{MaildirAt}
use Rattle.maildir_disk.specs.declared.disk_folder.DiskFolder.{DiskFolder}

-- the path at which a folder on disk was opened
abbrev pub root_of : {C F : Type 0} → DiskFolder (MaildirAt C F) → List ℕ
root_of folder = string_bytes folder.system.paths.root
