-- What initial processes give to the bits, as far as it is told.
use Rattle.std.specs.Prelude.{Bool, true, false, List, map, if◌then◌else◌}
use Rattle.std.specs.List.{flat_map}
use Rattle.vs_four.specs.declared.Bit4.{Bit4}
use Rattle.vs_four.specs.declared.Bit4.TheVariants.{X, Z}
use Rattle.vs_net.specs.Network.{State, Update, flatten, write_all}
use Rattle.vs_design.specs.Designs.{Initial}
use Rattle.vs_design.specs.Initials.{initial_writes, initial_updates}
use Rattle.vs_design.specs.Sets.{Set4, has}

-- the value of a set of x or of z alone
abbrev pub idle_of : Set4 → Bit4
idle_of set_ = if has set_ Z then Z else X

-- what initial processes write at once, or by their updates, in the order of the text
abbrev pub initial_effects : (at_once : Bool) → List Initial → List Update
initial_effects true is = map initial_writes is
initial_effects false is = flat_map initial_updates is

-- the state after that
abbrev pub started : (at_once : Bool) → List Initial → State → State
started at_once is state = write_all state (flatten (initial_effects at_once is))
