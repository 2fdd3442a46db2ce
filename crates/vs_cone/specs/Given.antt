-- What inputs, registers and clock nets have in a slot before its processes run, and what that slot then comes to.
use Rattle.std.specs.Prelude.{◌≡◌, ℕ, true, false, List, [], ◌∷◌, ◌++◌, map, if◌then◌else◌, Option, Some, None, slice_get}
use Rattle.vs_four.specs.declared.Bit4.TheVariants.{Zero, One}
use Rattle.vs_net.specs.Network.{State, Write, write_all, flatten, effects, branch, Reset}
use Rattle.vs_net.specs.Queue.{Fall, Rise}
use Rattle.vs_net.specs.Solution.{reset_effects, IsSlotEnd}
use Rattle.vs_net.specs.Settle.{settle}
use Rattle.vs_design.specs.Designs.{Process, is_clocked, Design}
use Rattle.vs_design.specs.Footprints.{contains, without, input_bits, writes_of}
use Rattle.vs_design.specs.Clocks.{clock_bits, clock_nets}
use Rattle.vs_design.specs.Resets.{reset_of}
use Rattle.vs_design.specs.Sizes.{register_bits}
use Rattle.vs_design.specs.Levels.{is_level_order}
use Rattle.vs_design.specs.Networks.{process_of, network_of}
use Rattle.vs_design.specs.Accepted.{IsAcceptedDesign}
use Rattle.vs_cone.specs.Cones.{cone, but_ports}
use Rattle.vs_cone.specs.Laws.{IsSettled, HaveClock}

-- the bits of the data inputs, which are the inputs of the top but the clocks, in bit order
abbrev pub data_bits : Design → List ℕ → List ℕ
data_bits d clocks = without (input_bits d) clocks

-- the bits that this reset's branch writes, at once or by an update
abbrev pub bits_of_reset : Option Reset → List ℕ
bits_of_reset None = []
bits_of_reset (Some r) = map (λ (w : Write). w.bit) (flatten (branch r))

-- those of the resets of all clocked blocks of the list
abbrev pub bits_of_resets : Design → List ℕ → List Process → List ℕ
bits_of_resets d clocks [] = []
bits_of_resets d clocks (x ∷ xs) = (if is_clocked x then bits_of_reset (reset_of d clocks x) else []) ++ bits_of_resets d clocks xs

-- those of all resets of the design
abbrev pub reset_bits : Design → List ℕ → List ℕ
reset_bits d clocks = bits_of_resets d clocks d.processes

-- the bits that change where the clocks fall, before any process runs
abbrev pub fall_bits : Design → List ℕ → List ℕ
fall_bits d clocks = data_bits d clocks ++ reset_bits d clocks

-- The clocks have fallen: the data inputs have the vector's values, the bits that a reset branch sets have the last of its values where the vector has the reset active, the clock nets are 0, and all else is as before.
pub record HasFallen (d : Design) (clocks : List ℕ) (vector before s : State) : Type 0 where
  pub inputs : (b : ℕ) → contains (data_bits d clocks) b ≡ true → s b ≡ vector b
  pub resets : (p : ℕ) (x : Process) → slice_get d.processes p ≡ Some x → is_clocked x ≡ true
      → (b : ℕ) → contains (bits_of_reset (reset_of d clocks x)) b ≡ true
      → s b ≡ write_all before (flatten (reset_effects (reset_of d clocks x) vector)) b
  pub clock_is : HaveClock d clocks Zero s
  pub others : (b : ℕ) → contains (fall_bits d clocks) b ≡ false → contains (clock_nets d clocks) b ≡ false → s b ≡ before b

-- The clocks have risen: each register has what a run of its block gives from the values before, first what it writes at once and then its updates, the clock nets are 1, and all else is as before.
pub record HasRisen (d : Design) (clocks : List ℕ) (before s : State) : Type 0 where
  pub registers : (p : ℕ) (x : Process) → slice_get d.processes p ≡ Some x → is_clocked x ≡ true
      → (b : ℕ) → contains (writes_of x) b ≡ true → s b ≡ write_all before (flatten (effects (process_of d clocks x) before)) b
  pub clock_is : HaveClock d clocks One s
  pub others : (b : ℕ) → contains (register_bits d.processes) b ≡ false → contains (clock_nets d clocks) b ≡ false → s b ≡ before b

-- a first slot in which the clocks fall ends once all processes have run but the clocks' ports
abbrev pub FirstFall : Type 0
FirstFall =
    (d : Design) (names : List (List ℕ)) (a : IsAcceptedDesign d names) (order : List ℕ) → is_level_order d order ≡ true
    → (vector before s : State) → HasFallen d (clock_bits a.clocks) vector before s
    → IsSlotEnd (network_of d (clock_bits a.clocks)) before (Fall vector) (settle (network_of d (clock_bits a.clocks)) before (but_ports d (clock_bits a.clocks) order) s)

-- a later one ends once of these the cone of the data inputs and of what resets set has run
abbrev pub LaterFall : Type 0
LaterFall =
    (d : Design) (names : List (List ℕ)) (a : IsAcceptedDesign d names) (order : List ℕ) → is_level_order d order ≡ true
    → (vector before s : State) → IsSettled (network_of d (clock_bits a.clocks)) before → HasFallen d (clock_bits a.clocks) vector before s
    → IsSlotEnd (network_of d (clock_bits a.clocks)) before (Fall vector) (settle (network_of d (clock_bits a.clocks)) before (cone d (fall_bits d (clock_bits a.clocks)) (but_ports d (clock_bits a.clocks) order)) s)

-- a slot in which it rises ends once the cone of the registers has run
abbrev pub LaterRise : Type 0
LaterRise =
    (d : Design) (names : List (List ℕ)) (a : IsAcceptedDesign d names) (order : List ℕ) → is_level_order d order ≡ true
    → (before s : State) → IsSettled (network_of d (clock_bits a.clocks)) before → HasRisen d (clock_bits a.clocks) before s
    → IsSlotEnd (network_of d (clock_bits a.clocks)) before Rise (settle (network_of d (clock_bits a.clocks)) before (cone d (register_bits d.processes) (but_ports d (clock_bits a.clocks) order)) s)
