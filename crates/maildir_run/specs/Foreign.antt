-- What a quiet run keeps of other programs' files.
use Rattle.std.specs.Prelude.{◌≡◌, ℕ, List, IsFalse}
use Rattle.std.specs.FinMap.{get}
use Rattle.maildir_name.specs.Names.{is_converter_name}
use Rattle.maildir_run.specs.Files.{Files}

-- all files whose names are not a converter's are as they were
pub record KeepsForeign (old new : Files) : Type 0 where
  pub in_tmp : (name : List ℕ) → IsFalse (is_converter_name name) → get new.tmp name ≡ get old.tmp name
  pub in_new : (name : List ℕ) → IsFalse (is_converter_name name) → get new.new name ≡ get old.new name
  pub in_cur : (name : List ℕ) → IsFalse (is_converter_name name) → get new.cur name ≡ get old.cur name
