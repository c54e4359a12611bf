-- The bases of names, as a set.
use Rattle.std.specs.Prelude.{ℕ, List, [], ◌∷◌, map}
use Rattle.std.specs.Coded.{Coded, coded_list, coded_ℕ}
use Rattle.std.specs.FinMap.{FinMap, insert, from_entries, code}
use Rattle.std.specs.Borrow.{Bor}
use Rattle.maildir_name.specs.Names.{base}
use Rattle.maildir_run.specs.Files.{name_cmp}
use package.base.Stored.{coded_unit}

-- a finite set of bases
abbrev pub BaseSet : Type 0
BaseSet = FinMap name_cmp (Unit {0})

-- its code, by which a proof tells two sets apart
abbrev pub base_set_code : Coded BaseSet
base_set_code = code (coded_list coded_ℕ) coded_unit

-- the set that some texts make
abbrev pub set_of : List (Bor (List ℕ)) → BaseSet
set_of texts = from_entries (map (λ text. (text.now, tt)) texts)

-- the set with the bases of some names
abbrev pub with_bases : BaseSet → List (List ℕ) → BaseSet
with_bases bases [] = bases
with_bases bases (name ∷ names) = with_bases (insert bases (base name) tt) names
