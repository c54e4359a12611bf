-- Which calls each part of a run makes.
use Rattle.std.specs.Prelude.{ℕ, Bool, List, [], ◌∷◌, map, if◌then◌else◌}
use Rattle.std.specs.List.{flat_map, filter}
use Rattle.maildir_name.specs.declared.target.Target.{Target}
use Rattle.maildir_name.specs.Names.{is_converter_name}
use Rattle.maildir_run.specs.Calls.{Writing, Placing, Removing}
use Rattle.maildir_run.specs.Delivery.{Message}
use Rattle.maildir_run.specs.Tasks.{Task, Do}

-- the converter's names among these are removed
abbrev pub sweep_of : List (List ℕ) → List Task
sweep_of names = map (λ name. Do (Removing name)) (filter is_converter_name names)

-- a message is written in `tmp` under its base, and placed
abbrev pub delivery_of : Target → List ℕ → List Task
delivery_of t body = Do (Writing t.base body) ∷ Do (Placing t.base t.place t.name) ∷ []

-- the same, unless this test tells that the message is there
abbrev pub delivery_if : (List ℕ → Bool) → Message → List Task
delivery_if is_there m = if is_there m.target.base then [] else delivery_of m.target m.body

-- the messages that the test doesn't tell to be there are written and placed, in order
abbrev pub deliveries_of : (List ℕ → Bool) → List Message → List Task
deliveries_of is_there ms = flat_map (delivery_if is_there) ms
