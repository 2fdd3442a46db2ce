-- The operators on one bit and on two that kernels take bit by bit.
use Rattle.std.specs.Prelude.{Bool, true, false}
use Rattle.vs_four.specs.declared.Bit4.{Bit4}
use Rattle.vs_four.specs.Tables.{not_bit, and_bit, or_bit, xor_bit, xnor_bit, same_bit, casez_bit, casex_bit}
use Rattle.vs_four.specs.declared.Bit4.TheVariants.{Zero, One}
use Rattle.vs_kern_logic.specs.declared.gates.Gate.{Gate}
use Rattle.vs_kern_logic.specs.declared.gates.Fold.{Fold}
use Rattle.vs_kern_logic.specs.declared.gates.Fold.TheVariants.{All, Any, Parity}
use Rattle.vs_kern_logic.specs.declared.gates.Gate.TheVariants.{And, Or, Xor, Xnor, Same, MatchesZ, MatchesX}

-- what a gate makes of two bits
abbrev pub gate_bit : Gate → Bit4 → Bit4 → Bit4
gate_bit And = and_bit
gate_bit Or = or_bit
gate_bit Xor = xor_bit
gate_bit Xnor = xnor_bit
gate_bit Same = same_bit
gate_bit MatchesZ = casez_bit
gate_bit MatchesX = casex_bit

-- the operator of a fold, and the bit that it begins with
abbrev pub fold_bit : Fold → Bit4 → Bit4 → Bit4
fold_bit All = and_bit
fold_bit Any = or_bit
fold_bit Parity = xor_bit

abbrev pub first_bit : Fold → Bit4
first_bit All = One
first_bit Any = Zero
first_bit Parity = Zero

-- a bit, and where this says so its `~`
abbrev pub output_bit : Bool → Bit4 → Bit4
output_bit true b = not_bit b
output_bit false b = b
