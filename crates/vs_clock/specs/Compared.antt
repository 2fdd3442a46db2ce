-- Operands of a comparison of a bit and a constant.
use Rattle.std.specs.Prelude.{◌≡◌, ℕ, false, Some}
use Rattle.vs_design.specs.Expressions.{Expression, is_constant}
use Rattle.vs_design.specs.Clocks.{name_of}
use Rattle.vs_clock.specs.Ports.{bit_of}

-- the operand is constant, or else the name of the signal that has this bit alone
abbrev pub IsOperand : ℕ → Expression → Type 0
IsOperand b e = is_constant e ≡ false → bit_of (name_of e) ≡ Some b
