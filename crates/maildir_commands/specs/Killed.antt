-- A command that is killed.
use Rattle.std.specs.Prelude.{ℕ, List, Option}
use Rattle.std.specs.Io.KnownBytes.{Appends}
use Rattle.maildir_commands.specs.declared.killed.Killed.{Killed}
use Rattle.maildir_commands.specs.Seen.{SeenMachine}

-- what a process that is killed makes calls of
abbrev pub inside : {T : Type 0} → Killed T → T
inside killed = killed.inner

-- a machine as a process sees it that is killed: any file and any Maildir may be refused
abbrev pub as_killed : SeenMachine → SeenMachine
as_killed machine = record machine { refuses_source = λ _. Unit {0}; refuses_maildir = λ _ _. Unit {0} }

-- Of what the program gave to its output, the first bytes came out, all or some or none. Those behind them were lost with its buffer. `before` is what
-- there was as it began, `after` is what came out, and `given` is what would have come out if nothing had been lost.
pub record CameOut (before after given : Option (List ℕ)) : Type 0 where
  pub came : List ℕ
  pub lost : List ℕ
  pub came_out : Appends before after came
  pub was_lost : Appends after given lost
