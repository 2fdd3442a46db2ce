-- The writes of a value to bits in a row.
use Rattle.std.specs.Prelude.{ℕ, suc, List, [], ◌∷◌}
use Rattle.vs_four.specs.declared.Bit4.{Bit4}
use Rattle.vs_net.specs.Network.{Update}

abbrev pub given : ℕ → List Bit4 → Update
given first [] = []
given first (v ∷ vs) = record { bit = first; value = v } ∷ given (suc first) vs
