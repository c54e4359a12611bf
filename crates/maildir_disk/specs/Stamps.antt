-- How the stamp of a folder compares with the clock.
use Rattle.std.specs.Prelude.{ℕ, ◌+◌, ◌≤◌}
use Rattle.maildir_disk.specs.World.{margin_of}

-- no change from now on gives this stamp
abbrev pub IsSettled : ℕ → ℕ → Type 0
IsSettled stamp now = stamp + margin_of stamp ≤ now

-- no change up to now has given this stamp
abbrev pub IsFarAhead : ℕ → ℕ → Type 0
IsFarAhead stamp now = now + margin_of stamp ≤ stamp
