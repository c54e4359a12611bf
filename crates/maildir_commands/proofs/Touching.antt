-- Which files a conversion touched.
use Rattle.std.proofs.Common.{◌≡◌, ℕ, List, IsTrue, Option, inl, inr}
use Rattle.maildir_name.specs.Names.{is_converter_name}
use Rattle.maildir_run.specs.Touched.{FileName, TouchedConverters}
use Rattle.maildir_commands.proofs.Common.{SeenMachine, SeenProgram, Spared, ToConvert}
use Rattle.maildir_commands.specs.Program.{Done, Ending, Ends, RanOn, Stopped, WrongWords}
use Rattle.maildir_commands.specs.Seen.{Streams}
use Rattle.maildir_commands.specs.Words.{convert_words}

-- what the record of a run says of the Maildir into which it converts
touches_into : (words : List (List ℕ)) (path : List ℕ) (files : List (List ℕ)) → words ≡ convert_words path files → (ending : Ending) (old new : SeenProgram)
    (was is : Option (List ℕ)) → Ends words ending old new was is → (spared : Spared) → old.machine.honest spared
    → TouchedConverters (old.machine.maildir_at path).touched (new.machine.maildir_at path).touched
touches_into words path files asks Done old new was is ended spared honest = (ended.0.does (ToConvert path files) asks).works.touches spared honest
touches_into words path files asks (Stopped fault) old new was is ended spared honest =
    (ended.0.does (ToConvert path files) asks).works.touches spared honest
touches_into words path files asks WrongWords old new was is ended spared honest = absurd (ended.0 (ToConvert path files, asks))

-- if none was touched before, each file that is touched now has a converter's name
own_alone : (old new : FileName → Type 0) → TouchedConverters old new → ((file : FileName) → ¬ old file) → (file : FileName) → new file
    → IsTrue (is_converter_name file.name)
own_alone old new touched none file now = elim (touched.only file now) as (λ _. IsTrue (is_converter_name file.name)) [
  | inl own ↦ own
  | inr before ↦ absurd (none file before)
]

pub only_own : {M : Type 0} (seen : M → SeenMachine) (spared : Spared) (words : List (List ℕ)) (path : List ℕ) (files : List (List ℕ)) (status : ℕ)
    (old new : M) (was is : Streams) → (seen old).honest spared → words ≡ convert_words path files → RanOn seen words status old new was is
    → ((file : FileName) → ¬ ((seen old).maildir_at path).touched file) → (file : FileName) → ((seen new).maildir_at path).touched file
    → IsTrue (is_converter_name file.name)
only_own seen spared words path files status old new was is honest asks ran =
    own_alone _ _ (touches_into words path files asks ran.ending _ _ _ _ ran.ran spared honest)
