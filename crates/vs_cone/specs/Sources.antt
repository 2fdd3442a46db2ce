-- Where data inputs, clock nets and registers have their bits.
use Rattle.std.specs.Prelude.{◌≡◌, ℕ, ◌<◌, ◌≤◌, ◌⊎◌, true, false, List, Some, slice_get, Option}
use Rattle.vs_net.specs.Network.{Reset}
use Rattle.vs_design.specs.Designs.{Process, is_clocked, Design, bit_count}
use Rattle.vs_design.specs.Footprints.{contains, writes_of}
use Rattle.vs_design.specs.Clocks.{clock_bits, clock_nets, own_nets}
use Rattle.vs_design.specs.Resets.{reset_of}
use Rattle.vs_design.specs.Sizes.{register_bits}
use Rattle.vs_design.specs.Accepted.{IsAcceptedDesign}
use Rattle.vs_cone.specs.Given.{data_bits, bits_of_reset, reset_bits}

-- all are bits of the design, but clocks that aren't any, and none is of two of these kinds
pub record SourcesAre (d : Design) (clocks : List ℕ) : Type 0 where
  pub data_below : (b : ℕ) → contains (data_bits d clocks) b ≡ true → b < bit_count d
  pub nets_below : (b : ℕ) → contains (own_nets d clocks) b ≡ true → b < bit_count d
  -- those are clock nets; any other clock net is a clock that isn't a bit of the design
  pub nets_own : (b : ℕ) → contains (own_nets d clocks) b ≡ true → contains (clock_nets d clocks) b ≡ true
  pub nets_are : (b : ℕ) → contains (clock_nets d clocks) b ≡ true → (contains (own_nets d clocks) b ≡ true) ⊎ ((contains clocks b ≡ true) × (bit_count d ≤ b))
  pub registers_below : (b : ℕ) → contains (register_bits d.processes) b ≡ true → b < bit_count d
  pub data_apart : (b : ℕ) → contains (data_bits d clocks) b ≡ true → contains (clock_nets d clocks) b ≡ false
  pub registers_apart : (b : ℕ) → contains (register_bits d.processes) b ≡ true → contains (clock_nets d clocks) b ≡ false
  pub data_is_no_register : (b : ℕ) → contains (data_bits d clocks) b ≡ true → contains (register_bits d.processes) b ≡ false
  -- a reset sets registers, those of its own block, by a data input
  pub resets_are : (b : ℕ) → contains (reset_bits d clocks) b ≡ true → contains (register_bits d.processes) b ≡ true
  pub reset_writes : (p : ℕ) (x : Process) (b : ℕ) → slice_get d.processes p ≡ Some x → is_clocked x ≡ true
      → contains (bits_of_reset (reset_of d clocks x)) b ≡ true → contains (writes_of x) b ≡ true
  pub reset_input : (x : Process) (r : Reset) → reset_of d clocks x ≡ Some r → contains (data_bits d clocks) r.input ≡ true

-- so they are in an accepted design
abbrev pub SourcesOfDesign : Type 0
SourcesOfDesign = (d : Design) (names : List (List ℕ)) (a : IsAcceptedDesign d names) → SourcesAre d (clock_bits a.clocks)
