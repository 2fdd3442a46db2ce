-- A table of values, one for each bit of the design by number.
use Rattle.std.specs.Prelude.{ℕ, List, slice_index_or, Option}
use Rattle.vs_four.specs.declared.Bit4.{Bit4}
use Rattle.vs_four.specs.declared.Bit4.TheVariants.{X}
use Rattle.vs_four.specs.Logic.{BitList}
use Rattle.vs_net.specs.Network.{State, write_all}
use Rattle.vs_design.specs.Bodies.{pair_up}

-- a number that no bit of the design has stands for x
abbrev pub state_of : List Bit4 → State
state_of values b = slice_index_or values b X

-- all bits are x: what constants are evaluated in
abbrev pub unknown : State
unknown b = X

-- the state after these values are written to these bits, one after the other
abbrev pub written : List (Option ℕ) → BitList → State → State
written bits values s = write_all s (pair_up bits values)
