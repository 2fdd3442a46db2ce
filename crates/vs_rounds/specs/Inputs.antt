-- The data inputs and the outputs of a design, as the stimuli name them.
use Rattle.std.specs.Prelude.{◌≡◌, ℕ, Bool, not, ◌&&◌, ◌==◌, List, map, filter, length, sum, All}
use Rattle.std.specs.List.{list_any}
use Rattle.vs_design.specs.Expressions.{Signal, signal_length}
use Rattle.vs_design.specs.Designs.{Design}
use Rattle.vs_design.specs.Footprints.{contains, is_memory}
use Rattle.vs_design.specs.Clocks.{clock_bits, same_name}
use Rattle.vs_design.specs.Resets.{reset_inputs}
use Rattle.vs_design.specs.Selects.{select_firsts}
use Rattle.vs_design.specs.Accepted.{IsAcceptedDesign}
use Rattle.vs_cone.specs.Given.{data_bits}
use Rattle.vs_stim.specs.declared.input.Input.{Input}
use Rattle.vs_stim.specs.declared.input.Output.{Output}
use Rattle.vs_stim.specs.Header.{IsInput, lengths}

-- an input of the top whose bit isn't a clock's
abbrev pub is_data_input : List ℕ → Signal → Bool
is_data_input clocks s = s.input && not (contains clocks s.first)

-- A stimulus names the signal so, and gives it as many digits as it has bits. It is a reset input where its bit is one of these, and a select input where its first bit is one of those.
abbrev pub input_of : (resets selects : List ℕ) → Signal → Input
input_of resets selects s = record { name = s.name; length = signal_length s; reset = contains resets s.first; select = contains selects s.first }

abbrev pub inputs_among : (resets selects : List ℕ) → List ℕ → List Signal → List Input
inputs_among resets selects clocks signals = map (input_of resets selects) (filter (is_data_input clocks) signals)

-- the inputs of the top but the clocks, which have these bits, in order of declaration
abbrev pub data_inputs : Design → List ℕ → List Input
data_inputs d clocks = inputs_among (reset_inputs d clocks) (select_firsts d) clocks d.signals

-- a signal of the top, whose scope is 0, that has one of these names; a memory is no port
abbrev pub is_output : List (List ℕ) → Signal → Bool
is_output names s = (s.scope == 0) && (not (is_memory s) && list_any (same_name s.name) names)

-- A stimulus names the signal so, and says of as many digits as it has bits what they have to be.
abbrev pub output_of : Signal → Output
output_of s = record { name = s.name; length = signal_length s }

abbrev pub outputs_among : List (List ℕ) → List Signal → List Output
outputs_among names signals = map output_of (filter (is_output names) signals)

-- the outputs of the top, which have these names, in order of declaration
abbrev pub outputs : Design → List (List ℕ) → List Output
outputs d names = outputs_among names d.signals

-- the stimuli drive the data inputs of the design
pub record AreDataInputs (d : Design) (clocks : List ℕ) (inputs : List Input) : Type 0 where
  pub each : All IsInput inputs
  pub inputs_are : inputs ≡ data_inputs d clocks

-- They have together as many bits as the design's data inputs.
abbrev pub InputBitsFit : Type 0
InputBitsFit = (d : Design) (names : List (List ℕ)) (a : IsAcceptedDesign d names) (inputs : List Input) → AreDataInputs d (clock_bits a.clocks) inputs → sum (lengths inputs) ≡ length (data_bits d (clock_bits a.clocks))
