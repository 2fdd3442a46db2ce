-- Worked designs: the processes that each kind of slot runs, by number, and the bits that change before.
use Rattle.std.specs.Prelude.{◌≡◌, ℕ, List, [], ◌∷◌}
use Rattle.vs_design.specs.Designs.{Design}
use Rattle.vs_design.specs.Sizes.{register_bits}
use Rattle.vs_design.specs.Levels.{level_order}
use Rattle.vs_design.specs.ExampleDesigns.{chain, clocked_instance, sleeper, resettable, reset_through_port}
use Rattle.vs_cone.specs.Cones.{cone, but_ports}
use Rattle.vs_cone.specs.Given.{data_bits, reset_bits, fall_bits}
use Rattle.vs_cone.specs.Counts.{clocked}

-- what settles a first slot, a later one in which the clocks fall, and one in which it rises; the one clock is bit 0
abbrev pub first_of : Design → List ℕ
first_of d = but_ports d (0 ∷ []) (level_order d)

abbrev pub fall_of : Design → List ℕ
fall_of d = cone d (fall_bits d (0 ∷ [])) (but_ports d (0 ∷ []) (level_order d))

abbrev pub rise_of : Design → List ℕ
rise_of d = cone d (register_bits d.processes) (but_ports d (0 ∷ []) (level_order d))

pub record ConesComputed : Type 0 where
  -- `assign y = v; assign v = ~u; assign u = ~a;`: all follow the input, and a rise runs nothing
  pub chain_first : first_of chain ≡ 2 ∷ 1 ∷ 0 ∷ []
  pub chain_fall : fall_of chain ≡ 2 ∷ 1 ∷ 0 ∷ []
  pub chain_rise : rise_of chain ≡ []
  -- a register in an instance: its clock port never runs, its data port where the clocks fall, its output port where it rises
  pub instance_first : first_of clocked_instance ≡ 1 ∷ 2 ∷ []
  pub instance_fall : fall_of clocked_instance ≡ 1 ∷ []
  pub instance_rise : rise_of clocked_instance ≡ 2 ∷ []
  pub instance_clocked : clocked clocked_instance ≡ 3 ∷ []
  -- a block that sleeps until the register differs from x: later falls don't run it
  pub sleeper_data : data_bits sleeper (0 ∷ []) ≡ 1 ∷ 2 ∷ []
  pub sleeper_first : first_of sleeper ≡ 1 ∷ []
  pub sleeper_fall : fall_of sleeper ≡ []
  pub sleeper_rise : rise_of sleeper ≡ 1 ∷ []
  -- a reset sets the register where the clocks fall, so a fall runs what reads it: here the output port
  pub reset_sets : reset_bits resettable (0 ∷ []) ≡ 3 ∷ []
  pub port_reset_sets : fall_bits reset_through_port (0 ∷ []) ≡ 1 ∷ 2 ∷ 7 ∷ []
  pub port_reset_fall : fall_of reset_through_port ≡ 1 ∷ 2 ∷ 3 ∷ []
  pub port_reset_rise : rise_of reset_through_port ≡ 3 ∷ []
