-- The kind of a file, and its owner.
use Rattle.std.specs.Prelude.{◌≡◌, ℕ, bit_and}
use Rattle.maildir_calls.specs.declared.own.Facts.{Facts}

-- it is a folder: `S_IFDIR` of stat(2)
abbrev pub IsFolder : Facts → Type 0
IsFolder found = bit_and found.mode 0o170000 ≡ 0o040000

-- The converter may have made the file: it is a regular file of mode 0600, has one name, and belongs to this owner.
pub record IsOfOwner (found : Facts) (owner : ℕ) : Type 0 where
  pub private : found.mode ≡ 0o100600
  pub one_name : found.links ≡ 1
  pub owned : found.owner ≡ owner

-- The file that was opened is our own, and is the one that was found.
pub record IsSameOwn (opened found : Facts) : Type 0 where
  pub own : IsOfOwner opened found.owner
  pub device : opened.device ≡ found.device
  pub number : opened.number ≡ found.number
