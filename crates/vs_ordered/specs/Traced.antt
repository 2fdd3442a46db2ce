-- What the waveform of a run of the queue is.
use Rattle.std.specs.Prelude.{◌≡◌, ℕ, ◌-◌, ◌^◌, Bool, true, List, ◌∷◌, All, length, map, min}
use Rattle.vs_net.specs.Network.{State}
use Rattle.vs_net.specs.Queue.{Choice, IsCompleted, IsFirst, ends, start}
use Rattle.vs_design.specs.Designs.{Initial, Design}
use Rattle.vs_design.specs.Initials.{IsOrderOf}
use Rattle.vs_design.specs.Networks.{idle_value, network_in, network_of}
use Rattle.vs_queue.specs.Chosen.{IsChosen}
use Rattle.vs_queue.specs.Ordered.{driven_bits, drawn_values, seed_after}
use Rattle.vs_rounds.specs.Drives.{Vector, vector_state}
use Rattle.vs_rounds.specs.Inputs.{data_inputs}
use Rattle.vs_stim.specs.Header.{lengths}
use Rattle.vs_stim.specs.Laws.{known_in_controls}
use Rattle.vs_stim.specs.Row.{sizes}
use Rattle.vs_stim.specs.Vectors.{vector_known}
use Rattle.vs_vcd.specs.Shared.{text_of}

-- each vector has a value of its length for each data input
abbrev pub AreSized : Design → List ℕ → List Vector → Type 0
AreSized d clocks vectors = All (λ (vector : Vector). sizes vector ≡ lengths (data_inputs d clocks)) vectors

-- these are vectors of a valid stimulus: in the first one all is known, and in the others the reset inputs and the select inputs
pub record AreValid (d : Design) (clocks : List ℕ) (vectors : List Vector) (first : Vector) (later : List Vector) : Type 0 where
  pub vectors_are : vectors ≡ first ∷ later
  pub known : vector_known first ≡ true
  pub controls : All (λ (vector : Vector). known_in_controls (data_inputs d clocks) vector ≡ true) later

-- The text is the dump of every completed run of the queue on these vectors, whatever it begins with and whatever the order of its steps (11.4.2) and of its initial processes.
abbrev pub IsEveryDump : Bool → Design → List ℕ → ℕ → Vector → List Vector → List ℕ → Type 0
IsEveryDump share d clocks half first later text =
    (initials : List Initial) → IsOrderOf d.initials initials → let n = network_in d clocks initials in
    (idle : State) → IsFirst n idle → let q = start n idle (vector_state d clocks first) (map (vector_state d clocks) later) in (choices : List Choice) → IsCompleted n q choices → text ≡ text_of share d half (ends n q choices)

-- The run that the number chooses has so many steps, as far as 64 bits can count.
pub record HasSteps (d : Design) (clocks : List ℕ) (order : ℕ) (first : Vector) (later : List Vector) (steps : ℕ) : Type 0 where
  pub choices : List Choice
  pub chosen : IsChosen (network_of d clocks) (start (network_of d clocks) (drawn_values (driven_bits d) order (idle_value d)) (vector_state d clocks first) (map (vector_state d clocks) later)) (seed_after (driven_bits d) order) choices
  pub steps_are : steps ≡ min (length choices) (2 ^ 64 - 1)
