-- The stores of a slot, where each process makes no more than it may, are within the size of the design.
use Rattle.std.specs.Prelude.{◌≡◌, ℕ, suc, ◌+◌, ◌≤◌, true, List, [], ◌∷◌, if◌then◌else◌, length, sum_by, Some, slice_get, Option}
use Rattle.vs_design.specs.Designs.{Process, is_clocked, Design}
use Rattle.vs_design.specs.Footprints.{writes_of}
use Rattle.vs_design.specs.Clocks.{clock_bits, own_nets}
use Rattle.vs_design.specs.Sizes.{distinct, process_weight, register_bits, sleeper_weight, size}
use Rattle.vs_design.specs.Levels.{is_level_order}
use Rattle.vs_design.specs.Accepted.{IsAcceptedDesign}
use Rattle.vs_cone.specs.Cones.{cone, but_ports}
use Rattle.vs_cone.specs.Given.{data_bits}

-- the numbers of the clocked blocks of the list, which is numbered from p on
abbrev pub clocked_from : ℕ → List Process → List ℕ
clocked_from p [] = []
clocked_from p (x ∷ xs) = if is_clocked x then (p ∷ clocked_from (suc p) xs) else clocked_from (suc p) xs

-- the numbers of the clocked blocks, in order
abbrev pub clocked : Design → List ℕ
clocked d = clocked_from 0 d.processes

-- the stores that a process may make: its weight, for a clocked block one for each bit that it writes, and for a sleeping block what it weighs besides
abbrev pub stores_of : Design → Process → ℕ
stores_of d x = process_weight x + (if is_clocked x then distinct (writes_of x) else 0) + sleeper_weight d x

-- the process of each number makes so many stores, and that is no more than it may
pub record AreWithin (d : Design) (stores : ℕ → ℕ) : Type 0 where
  pub each : (p : ℕ) (x : Process) → slice_get d.processes p ≡ Some x → stores p ≤ stores_of d x

-- the stores of each kind of slot are within the size
pub record StoresFitIn (d : Design) (clocks : List ℕ) (order : List ℕ) (stores resets : ℕ → ℕ) : Type 0 where
  -- where the clocks fall: one for each bit of the data inputs and each clock net, of which there are none without a clock, those of the clocked blocks' resets, and those of the processes but the clocks' ports
  pub fall : length (data_bits d clocks) + length (own_nets d clocks) + sum_by resets (clocked d) + sum_by stores (but_ports d clocks order) ≤ size d
  -- where it rises: one for each clock net, those of the clocked blocks, one for each register bit, and those of the processes but the clocks' ports
  pub rise : length (own_nets d clocks) + (sum_by stores (clocked d) + distinct (register_bits d.processes)) + sum_by stores (but_ports d clocks order) ≤ size d
  -- a cone makes no more stores than the list from which it is taken
  pub cones : (changed : List ℕ) → sum_by stores (cone d changed (but_ports d clocks order)) ≤ sum_by stores (but_ports d clocks order)

-- of an accepted design they are, whichever its level order is
abbrev pub StoresFit : Type 0
StoresFit =
    (d : Design) (names : List (List ℕ)) (a : IsAcceptedDesign d names) (order : List ℕ) → is_level_order d order ≡ true
    → (stores resets : ℕ → ℕ) → AreWithin d stores → AreWithin d resets → StoresFitIn d (clock_bits a.clocks) order stores resets
