-- What is told of the clocks of a design.
use Rattle.std.specs.Prelude.{◌≡◌, ℕ, List, length, slice_get, Option, Some}
use Rattle.vs_design.specs.Expressions.{Signal}
use Rattle.vs_design.specs.Designs.{Design}
use Rattle.vs_design.specs.Clocks.{clock_inputs, clock_bits}
use Rattle.vs_design.specs.Resets.{reset_inputs}
use Rattle.vs_flat.specs.Arena.{Arena}
use Rattle.vs_flat.specs.DesignOf.{design_of}
use Rattle.vs_clock.specs.declared.clocks.Clocks.TheInside.{Inside}
use Rattle.vs_clock.specs.declared.resets.Reset.{Reset}
use Rattle.vs_clock.specs.Nets.{Labelled, AreNets}
use Rattle.vs_clock.specs.Resets.{AreAllResets}

-- the numbers of its inputs, none where no clock is named, their bits, the nets, the reset of each process by number, and the inputs at the root of these
pub record Clocked : Type 0 where
  pub inputs : List ℕ
  pub bits : List ℕ
  pub nets : Labelled
  pub resets : List (Option Reset)
  pub reset_inputs : List ℕ

abbrev pub clocked_of : Inside → Clocked
clocked_of c = record { inputs = c.inputs.items; bits = c.bits.items; nets = c.nets; resets = c.resets.items; reset_inputs = c.reset_inputs.items }

-- each of these is the number of the signal at its place
abbrev pub AreSignals : Design → List ℕ → List Signal → Type 0
AreSignals d inputs signals = (k n : ℕ) → slice_get inputs k ≡ Some n → (s : Signal) × (slice_get d.signals n ≡ Some s) × (slice_get signals k ≡ Some s)

-- the inputs of the clocks that have these names, in this order, and their bits; without a name there is no input, and the number of the design's bits is the one bit
pub record AreClockInputs (d : Design) (names : List (List ℕ)) (inputs bits : List ℕ) : Type 0 where
  pub signals : List Signal
  pub named : length inputs ≡ length names
  pub there : AreSignals d inputs signals
  pub are : clock_inputs d names ≡ Some signals
  pub bits_are : bits ≡ clock_bits signals

-- the clocks of the design that have these names, or none: their inputs, one for each name, and for each bit whether it is a clock net's, and the input that it copies
pub record AreClocksOf (d : Design) (names : List (List ℕ)) (c : Clocked) : Type 0 where
  pub signals : List Signal
  pub named : length c.inputs ≡ length names
  pub there : AreSignals d c.inputs signals
  pub are : clock_inputs d names ≡ Some signals
  pub bits_are : c.bits ≡ clock_bits signals
  pub nets_are : AreNets d (clock_bits signals) c.nets

-- the resets by these clocks: that of each process, and the inputs that they copy
pub record AreResets (a : Arena) (c : Clocked) : Type 0 where
  pub resets : AreAllResets a c.bits c.resets
  pub inputs : c.reset_inputs ≡ reset_inputs (design_of a) c.bits
