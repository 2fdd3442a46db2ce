-- The clock nets and the reset nets of a design.
use Rattle.std.specs.Prelude.{◌≡◌, ℕ, Bool, List, Option}
use Rattle.vs_design.specs.Designs.{Design}
use Rattle.vs_design.specs.Footprints.{contains}
use Rattle.vs_design.specs.Clocks.{clock_nets, root_of, one_bit_inputs}
use Rattle.vs_clock.specs.declared.nets.Nets.TheInside.{Inside}
use Rattle.vs_clock.specs.Spread.{label_at, has_label}

-- the labels of bits that copy a clock, and those that copy an input, and these inputs
pub record Labelled : Type 0 where
  pub clock : List (Option ℕ)
  pub roots : List (Option ℕ)
  pub inputs : List ℕ

abbrev pub labelled_of : Inside → Labelled
labelled_of n = record { clock = n.clock.items; roots = n.roots.items; inputs = n.inputs.items }

abbrev pub is_clock_bit : Labelled → ℕ → Bool
is_clock_bit n b = has_label n.clock b

abbrev pub root_at : Labelled → ℕ → Option ℕ
root_at n b = label_at n.roots b

-- those of a design with these clocks
pub record AreNets (d : Design) (clocks : List ℕ) (n : Labelled) : Type 0 where
  pub clock : (b : ℕ) → is_clock_bit n b ≡ contains (clock_nets d clocks) b
  pub roots : (b : ℕ) → root_at n b ≡ root_of d clocks b
  pub inputs : n.inputs ≡ one_bit_inputs d clocks
