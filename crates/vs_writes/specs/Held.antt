-- The values of bits, as a list.
use Rattle.std.specs.Prelude.{List, slice_index_or}
use Rattle.vs_four.specs.declared.Bit4.{Bit4}
use Rattle.vs_four.specs.declared.Bit4.TheVariants.{X}
use Rattle.vs_net.specs.Network.{State}

-- the value of each bit, by number; a bit past the last is x
abbrev pub state_of : List Bit4 → State
state_of values b = slice_index_or values b X
