-- What a command asks for.
use Rattle.std.specs.Prelude.{ℕ, List, map, string_bytes, Option, Some, None}
use denote.Ref.{Bor}
use Rattle.maildir_commands.specs.declared.command.Command.{Command}
use Rattle.maildir_commands.specs.declared.command.Command.TheVariants as command
use Rattle.maildir_commands.specs.Words.{Request}
use Rattle.maildir_commands.specs.Words.Request.{ToWrite, ToConvert}

-- the word of a file that is named
abbrev pub name_of : Option (Bor (List ℕ)) → Option (List ℕ)
name_of None = None
name_of (Some path) = Some path.now

-- what a command asks for
abbrev pub request : Command → Request
request (command.Write form file) = ToWrite form (name_of file)
request (command.Convert maildir files) = ToConvert maildir.now (map string_bytes files.now)
