-- The inputs of the top by which a design is driven.
use Rattle.std.specs.Prelude.{◌≡◌, ℕ, ◌<◌, Bool, true, ◌&&◌, ◌⊎◌, List, [], ◌∷◌, length, ◌==◌, if◌then◌else◌, Option, Some, None}
use Rattle.vs_design.specs.Expressions.{Signal, signal_length}
use Rattle.vs_design.specs.Clocks.{same_name, named_inputs, clock_bits, may_reset}
use Rattle.vs_design.specs.Designs.{Design, bit_count}
use Rattle.vs_design.specs.Footprints.{contains}
use Rattle.vs_clock.specs.Clocked.{AreSignals}

-- the signal is a one-bit input of the top with this name
abbrev pub is_named_input : List ℕ → Signal → Bool
is_named_input name s = s.input && same_name s.name name && (signal_length s == 1)

-- the bit of an input that may be a reset
abbrev pub reset_bit : List ℕ → Signal → Option ℕ
reset_bit clocks s = if may_reset clocks s then Some s.first else None

-- all these bits are below this number
abbrev pub AllBelow : ℕ → List ℕ → Type 0
AllBelow n bits = (b : ℕ) → contains bits b ≡ true → b < n

-- clocks are bits of the design, or the one is the number of them
abbrev pub AreClockBits : Design → List ℕ → Type 0
AreClockBits d clocks = AllBelow (bit_count d) clocks ⊎ (clocks ≡ bit_count d ∷ [])

-- the clock inputs of these names, and their bits
pub record AreNamed (d : Design) (names : List (List ℕ)) (inputs bits : List ℕ) : Type 0 where
  pub signals : List Signal
  pub named : length inputs ≡ length names
  pub there : AreSignals d inputs signals
  pub are : named_inputs d names ≡ Some signals
  pub bits_are : bits ≡ clock_bits signals
