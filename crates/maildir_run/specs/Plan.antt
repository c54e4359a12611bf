-- The steps of a run, given what is listed and the targets.
use Rattle.std.specs.Prelude.{ℕ, List, [], ◌∷◌, ◌++◌, ◌||◌, ◌+◌, Bool, map, filter, if◌then◌else◌}
use Rattle.std.specs.List.{list_any}
use Rattle.maildir_name.specs.declared.target.Target.{Target}
use Rattle.maildir_name.specs.Names.{is_converter_name}
use Rattle.maildir_run.specs.Files.{has_base}
use Rattle.maildir_run.specs.declared.planner.Step.{Step}
use Rattle.maildir_run.specs.declared.planner.Step.TheVariants.{Remove, Write, Place}

-- whether a base is the base of some listed name of `new` or `cur`
abbrev pub is_listed : List (List ℕ) → List (List ℕ) → List ℕ → Bool
is_listed new cur b = list_any (has_base b) new || list_any (has_base b) cur

-- one removal for each converter's name of `tmp`, in the list's order
abbrev pub removals : List (List ℕ) → List Step
removals tmp = map Remove (filter is_converter_name tmp)

-- the steps for the target of this number: it is written and placed, unless its base is there
abbrev pub steps_for : (List ℕ → Bool) → ℕ → Target → List Step
steps_for is_there i target = if is_there target.base then [] else Write i ∷ Place i ∷ []

-- the steps for the targets, in order; the first has this number
abbrev pub deliveries_from : (List ℕ → Bool) → ℕ → List Target → List Step
deliveries_from is_there i [] = []
deliveries_from is_there i (target ∷ targets) = steps_for is_there i target ++ deliveries_from is_there (i + 1) targets

-- the steps of a run: what is left over in `tmp` is removed, and then each target that is not listed is written and placed (this project's own rule)
abbrev pub planned : List (List ℕ) → List (List ℕ) → List (List ℕ) → List Target → List Step
planned tmp new cur targets = removals tmp ++ deliveries_from (is_listed new cur) 0 targets

-- a step of a target that is alone, as the step of the target of this number
abbrev pub shifted : ℕ → Step → Step
shifted i (Remove name) = Remove name
shifted i (Write k) = Write (i + k)
shifted i (Place k) = Place (i + k)

-- the steps of each target alone, over an empty `tmp`, in order; the first target has this number
abbrev pub each_alone : ℕ → List (List ℕ) → List (List ℕ) → List Target → List Step
each_alone i new cur [] = []
each_alone i new cur (target ∷ targets) = map (shifted i) (planned [] new cur (target ∷ [])) ++ each_alone (i + 1) new cur targets
