-- What a write leaves that appends in several steps.
use Rattle.std.specs.Prelude.{◌⊎◌, ℕ, IsFalse, List}
use Rattle.maildir_run.specs.Calls.{Writing, effect}
use Rattle.maildir_disk.specs.World.{World, Acts}
use Rattle.maildir_disk.specs.Writing.{Comes}
use Rattle.maildir_run.specs.Files.{Spared, is_spared_name}

-- The file that was made holds these bytes, as if they had been written when it was made. Under a name that is
-- not spared, other programs may make files too, and nothing is known.
abbrev pub Written : Spared → List ℕ → List ℕ → World → World → Type 0
Written spared name bytes old new = Comes spared (effect (Writing name bytes)) old new ⊎ (IsFalse (is_spared_name spared name) × Acts spared old new)
