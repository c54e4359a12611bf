-- The files of a Maildir, and what other programs may do to them.
use Rattle.std.specs.Prelude.{◌≡◌, ◌&&◌, not, ℕ, Bool, true, false, IsTrue, List, [], ◌∷◌, ◌++◌, Option, Some, None, if◌then◌else◌, IsPermutation}
use Rattle.std.specs.declared.cmp.Ordering.{Ordering}
use Rattle.std.specs.Ordering.{nat_cmp, eq_by_cmp}
use Rattle.std.specs.Cmp.Lexicographic.{slice_cmp}
use Rattle.std.specs.FinMap.{FinMap, empty, get, insert, remove, entries, values, contains_key, retain_keys, from_entries}
use Rattle.maildir_name.specs.Names.{base, is_converter_name, is_converter_base}

-- names in the order of their bytes (this project's own rule)
abbrev pub name_cmp : List ℕ → List ℕ → Ordering
name_cmp = slice_cmp nat_cmp

-- whether two names are the same bytes
abbrev pub is_name : List ℕ → List ℕ → Bool
is_name = eq_by_cmp name_cmp

-- one of the three folders: a finite map from names to bytes
abbrev pub FileMap : Type 0
FileMap = FinMap name_cmp (List ℕ)

-- the files of a Maildir (maildir(5))
pub record Files : Type 0 where
  pub tmp : FileMap
  pub new : FileMap
  pub cur : FileMap

-- no files
abbrev pub no_files : Files
no_files = record { tmp = empty; new = empty; cur = empty }

-- whether a name has this base
abbrev pub has_base : List ℕ → List ℕ → Bool
has_base b name = is_name b (base name)

-- what the files of one folder hold whose names have this base
abbrev pub held_under : List ℕ → FileMap → List (List ℕ)
held_under b files = values (retain_keys files (has_base b))

-- what the homes of a base hold: one entry for each file of `new` and `cur` whose name has the base ("Using maildir format")
abbrev pub homes : Files → List ℕ → List (List ℕ)
homes s b = held_under b s.new ++ held_under b s.cur

-- What is known of other programs: which files they spare, and what a power cut does to their renames.
pub record Spared : Type 0 where
  -- whether they do only what mail readers do to the files of a base
  pub bases : List ℕ → Bool
  -- whether a power cut keeps or loses each of their renames as one change
  pub whole : Bool

-- P holds of each set of spared bases for which a folder or a system is honest
abbrev pub Honestly : (Spared → Type 0) → (Spared → Type 0) → Type 0
Honestly honest P = (spared : Spared) → honest spared → P spared

-- the set of all bases, of which a rename may be half kept
abbrev pub all_bases : Spared
all_bases = record { bases = λ b. true; whole = false }

-- the set has every converter's base
abbrev pub SparesAll : Spared → Type 0
SparesAll spared = (b : List ℕ) → IsTrue (is_converter_base b) → IsTrue (spared.bases b)

-- Fewer are spared by one set than by another: each base of the one is of the other too. If the one says that a power cut keeps or loses each rename
-- as one change, so does the other.
pub record AreFewer (fewer more : Spared) : Type 0 where
  pub bases : (b : List ℕ) → IsTrue (fewer.bases b) → IsTrue (more.bases b)
  pub whole : IsTrue fewer.whole → IsTrue more.whole

-- whether a base is a converter's, and spared
abbrev pub is_spared : Spared → List ℕ → Bool
is_spared spared b = spared.bases b && is_converter_base b

-- whether a name's base is a converter's, and spared
abbrev pub is_spared_name : Spared → List ℕ → Bool
is_spared_name spared name = is_spared spared (base name)

-- one action of another program, as data
pub data Action : Type 0 where
  -- it moves a file of `new` to `cur` (maildir(5))
  ToCur : (name target : List ℕ) → Action
  -- it renames a file of `cur`, as to change its info ("Using maildir format")
  Reflag : (name target : List ℕ) → Action
  -- it removes a converter's name from `tmp` (maildir(5): files left in `tmp` are cleaned up)
  DropTmp : (name : List ℕ) → Action
  -- it leaves all names that are spared and their bytes as they are, and makes the other names those of `files`: it may delete and rename them
  Outside : (files : Files) → Action

-- whether a file may be moved to this name: it is free there, and has the same base
abbrev pub may_take : FileMap → List ℕ → List ℕ → Bool
may_take there name target = not (contains_key there target) && is_name (base name) (base target)

-- a file of `new`, which holds this if it is there, is under a free name of the same base in `cur`
abbrev pub to_cur : Files → List ℕ → List ℕ → Option (List ℕ) → Files
to_cur s name target None = s
to_cur s name target (Some bytes) =
    if may_take s.cur name target then record s { new = remove s.new name; cur = insert s.cur target bytes } else s

-- a file of `cur`, which holds this if it is there, is under a free name of the same base
abbrev pub reflag : Files → List ℕ → List ℕ → Option (List ℕ) → Files
reflag s name target None = s
reflag s name target (Some bytes) =
    if may_take s.cur name target then record s { cur = insert (remove s.cur name) target bytes } else s

-- our files of names that are spared, and their files of other names
abbrev pub outsiders_of : Spared → FileMap → FileMap → FileMap
outsiders_of spared ours theirs =
    from_entries (entries (retain_keys ours (is_spared_name spared)) ++ entries (retain_keys theirs (λ name. not (is_spared_name spared name))))

-- the files after an action, which changes nothing if its condition fails (maildir(5), and this project's own rule for what is not spared)
abbrev pub acted : Spared → Action → Files → Files
acted spared (ToCur name target) s = to_cur s name target (get s.new name)
acted spared (Reflag name target) s = reflag s name target (get s.cur name)
acted spared (DropTmp name) s = if is_converter_name name then record s { tmp = remove s.tmp name } else s
acted spared (Outside files) s =
    record { tmp = outsiders_of spared s.tmp files.tmp; new = outsiders_of spared s.new files.new; cur = outsiders_of spared s.cur files.cur }

-- the files after some actions, one after the other
abbrev pub all_acted : Spared → List Action → Files → Files
all_acted spared [] s = s
all_acted spared (action ∷ actions) s = all_acted spared actions (acted spared action s)

-- two folders have the same names that are spared, with the same bytes
abbrev pub AgreeOnSpared : Spared → FileMap → FileMap → Type 0
AgreeOnSpared spared old new = (name : List ℕ) → IsTrue (is_spared_name spared name) → get new name ≡ get old name

-- In the three folders, all names that are spared and their bytes are as they were.
pub record KeepsSpared (spared : Spared) (old new : Files) : Type 0 where
  pub tmp_alike : AgreeOnSpared spared old.tmp new.tmp
  pub new_alike : AgreeOnSpared spared old.new new.new
  pub cur_alike : AgreeOnSpared spared old.cur new.cur

-- The homes of each base that is spared hold what they held, in any order.
pub record KeepsHomes (spared : Spared) (old new : Files) : Type 0 where
  pub kept : (b : List ℕ) → IsTrue (is_spared spared b) → IsPermutation (homes old b) (homes new b)
