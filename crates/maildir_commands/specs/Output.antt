-- What is written of a source's text.
use Rattle.std.specs.Prelude.{ℕ, List, Option}
use Rattle.std.specs.List.{flat_map}
use Rattle.mbox_text.specs.declared.entry.Entry.{Entry}
use Rattle.mbox_text.specs.Mbox.{Mbox}
use Rattle.mbox_text.specs.Spelling.{spelling}
use Rattle.mbox_text.specs.Writing.{AppendsPrefix}
use Rattle.maildir_run.specs.Output.{GivesAll}
use Rattle.maildir_run.specs.Table.{table_of}
use Rattle.maildir_commands.specs.declared.command.Form.{Form}
use Rattle.maildir_commands.specs.declared.command.Form.TheVariants as forms
use Rattle.maildir_commands.specs.declared.command.Form.TheVariants.{Regular}

-- what is written for the messages of a text: their regular spelling, or a row for each
abbrev pub output_of : Form → List Entry → List ℕ
output_of Regular = flat_map spelling
output_of forms.List = table_of

-- the source gave a text, and the output for all of its messages was written
abbrev pub WritesAll : (List Entry → List ℕ) → Option (List ℕ) → Option (List ℕ) → Option (List ℕ) → Type 0
WritesAll output source was is = (count : ℕ) × GivesAll output source was is count

-- if the text is an mbox text, a prefix of the output for its messages was written
abbrev pub WritesPrefix : (List Entry → List ℕ) → List ℕ → Option (List ℕ) → Option (List ℕ) → Type 0
WritesPrefix output text was is = (entries : List Entry) → Mbox text entries → AppendsPrefix was is (output entries)
