-- The resets of a design that is compiled, and the bits that they set (IEEE 1364-2005, 9.7.2 and 9.9.2).
use Rattle.std.specs.Prelude.{◌≡◌, ℕ, ◌<◌, Bool, true, false, List, [], map, length, slice_get, slice_index_or, Vec}
use Rattle.std.specs.declared.alloc.Global.{Global}
use Rattle.vs_design.specs.Designs.{Edge, Negedge, Design, bit_count}
use Rattle.vs_reads.specs.Footprint.{Footprint}
use Rattle.vs_clock.specs.Clocked.{Clocked}
use Rattle.vs_assemble.specs.Flags.{HasBitsOf}
use Rattle.vs_assemble.specs.Plans.{reset_bits_or}
use Rattle.vs_flat.specs.DesignOf.{design_of}
use Rattle.vs_compile.specs.declared.resets.ResetBits.TheInside.{Inside}
use Rattle.vs_values.specs.Templates.{Templated}
use Rattle.vs_compile.specs.Known.{AreFacts}

abbrev pub reset_lists : Inside → List (List ℕ)
reset_lists r = map (λ (v : Vec ℕ Global). v.items) r.of.items

-- of the first n processes, by number, the bits that its reset sets
pub record AreSet (d : Design) (clocks : List ℕ) (n : ℕ) (lists : List (List ℕ)) : Type 0 where
  pub count : length lists ≡ n
  pub each : (p : ℕ) → p < n → HasBitsOf (bit_count d) (slice_index_or lists p []) (reset_bits_or d clocks (slice_get d.processes p))

-- what is known of a design all of whose functions have been lowered, with the bits that the resets of its processes set
pub record HasFacts (t : Templated) (footprints : List Footprint) (clocks : Clocked) (lists : List (List ℕ)) : Type 0 where
  pub whole : t.functions ≡ length t.arena.bodies
  pub facts : AreFacts t.arena footprints clocks
  pub set : AreSet (design_of t.arena) clocks.bits (length (design_of t.arena).processes) lists

-- the reset is active at 0
abbrev pub falls : Edge → Bool
falls Negedge = true
falls _ = false
