-- What is seen of a machine, of a Maildir that is open, and of the program's streams, at one moment.
use Rattle.std.specs.Prelude.{◌≡◌, ℕ, List, [], Option}
use Rattle.maildir_disk.specs.declared.faults.OpenFault.{OpenFault}
use Rattle.maildir_disk.specs.declared.system.System.{Ghosts}
use Rattle.maildir_commands.specs.Machines.{HeldMaildir, Rests, nothing_held}
use Rattle.maildir_run.specs.Files.{Honestly, Spared}

-- what is seen of a machine
pub record SeenMachine : Type 1 where
  -- its calls do what their contracts say, and other programs do only what mail readers do to the files of these bases in its Maildirs
  pub honest : Spared → Type 0
  -- its calls do what their contracts say, and no other program acts on its Maildirs
  pub quiet : Type 0
  -- the text of the source that a path names, and that this source may be refused
  pub text_of : List ℕ → List ℕ
  pub refuses_source : List ℕ → Type 0
  -- the Maildir that a path names, while it is not open; that it may be refused for this fault; and that it was opened by this path
  pub maildir_at : List ℕ → HeldMaildir
  pub refuses_maildir : List ℕ → OpenFault → Type 0
  pub is_open : List ℕ → Type 0
  -- two paths name the same Maildir
  pub same : List ℕ → List ℕ → Type 0

-- what is seen of a machine of which nothing is known
abbrev pub nothing_seen : SeenMachine
nothing_seen = record {
  honest = λ _. ⊥;
  quiet = ⊥;
  text_of = λ _. [];
  refuses_source = λ _. Unit {0};
  maildir_at = λ _. nothing_held;
  refuses_maildir = λ _ _. Unit {0};
  is_open = λ _. Unit {0};
  same = λ _ _. Unit {0};
}

-- The machine does nothing to a Maildir from one moment to the next. Only other programs act on it, and nobody does if the machine is quiet.
pub record Untouched (machine : SeenMachine) (old new : HeldMaildir) : Type 0 where
  pub rests : Honestly machine.honest (λ spared. Rests spared old new)
  pub quietly : machine.quiet → new.files ≡ old.files

-- what is seen of a Maildir that is open
pub record OpenMaildir : Type 1 where
  pub honest : Spared → Type 0
  pub quiet : Type 0
  pub held : HeldMaildir

-- what is seen of a Maildir that is open, by the ghost members of its system of calls
abbrev pub opened : {S File : Type 0} → Ghosts S File → S → OpenMaildir
opened f s = record {
  honest = (f.at s).honest;
  quiet = (f.at s).quiet;
  held = record { files = (f.at s).world.files; may_leave = (f.at s).may_leave; rooted = (f.at s).rooted; touched = (f.at s).touched };
}

-- what is seen of a machine, and of what is left of standard input and was written to standard output, where these are known
pub record SeenProgram : Type 1 where
  pub machine : SeenMachine
  pub input : Option (List ℕ)
  pub output : Option (List ℕ)

-- what is seen of a machine, together with this standard input and output
abbrev pub seen_with : SeenMachine → Option (List ℕ) → Option (List ℕ) → SeenProgram
seen_with machine input output = record { machine = machine; input = input; output = output }

-- what is left of standard input, and what was written to standard output and standard error, where these are known
pub record Streams : Type 0 where
  pub input : Option (List ℕ)
  pub output : Option (List ℕ)
  pub errors : Option (List ℕ)

-- these three streams
abbrev pub streams : Option (List ℕ) → Option (List ℕ) → Option (List ℕ) → Streams
streams input output errors = record { input = input; output = output; errors = errors }

-- what is seen of a machine, together with the program's streams
abbrev pub seen_at : SeenMachine → Streams → SeenProgram
seen_at machine these = seen_with machine these.input these.output
