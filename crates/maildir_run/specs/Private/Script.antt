-- Whether half of a rename comes.
use Rattle.std.specs.Prelude.{ℕ, Bool, false, List, Option, Some, None}
use Rattle.maildir_run.specs.Files.{Files, may_take}

-- whether a file, which holds this if it is there, may be put under this name too
abbrev pub may_link : Files → List ℕ → List ℕ → Option (List ℕ) → Bool
may_link s name target None = false
may_link s name target (Some bytes) = may_take s.cur name target
