-- The words of the command line, and what they ask for.
use Rattle.std.specs.Prelude.{◌≡◌, ◌⊎◌, ℕ, List, [], ◌∷◌, codes, Option, Some, None}
use Rattle.maildir_commands.specs.declared.command.Form.{Form}
use Rattle.maildir_commands.specs.declared.command.Form.TheVariants as forms
use Rattle.maildir_commands.specs.declared.command.Form.TheVariants.{Regular}

-- the words `rewrite`, or none at all
abbrev pub AreRewrite : List (List ℕ) → Type 0
AreRewrite words = (words ≡ []) ⊎ (words ≡ codes "rewrite" ∷ [])

-- the words `convert MAILDIR [FILE]...`
abbrev pub convert_words : List ℕ → List (List ℕ) → List (List ℕ)
convert_words maildir files = codes "convert" ∷ maildir ∷ files

-- What the program is asked to do: to write a text in its regular spelling or as a table, or to deliver the messages of texts into a
-- Maildir. The texts are those of the files that are named; if none is named, the text is that of standard input.
pub data Request : Type 0 where
  ToWrite : (form : Form) → (file : Option (List ℕ)) → Request
  ToConvert : (maildir : List ℕ) → (files : List (List ℕ)) → Request

-- the words ask for this request
abbrev pub AskFor : List (List ℕ) → Request → Type 0
AskFor words (ToWrite Regular None) = AreRewrite words
AskFor words (ToWrite Regular (Some file)) = words ≡ codes "rewrite" ∷ file ∷ []
AskFor words (ToWrite forms.List None) = words ≡ codes "list" ∷ []
AskFor words (ToWrite forms.List (Some file)) = words ≡ codes "list" ∷ file ∷ []
AskFor words (ToConvert maildir files) = words ≡ convert_words maildir files

-- words of one of the forms: none at all, `rewrite [FILE]`, `list [FILE]`, or `convert MAILDIR [FILE]...` (this project's own rule)
abbrev pub AreOfAForm : List (List ℕ) → Type 0
AreOfAForm words = (request : Request) × AskFor words request

-- the files that are named
abbrev pub named_files : Request → List (List ℕ)
named_files (ToWrite form None) = []
named_files (ToWrite form (Some file)) = file ∷ []
named_files (ToConvert maildir files) = files
