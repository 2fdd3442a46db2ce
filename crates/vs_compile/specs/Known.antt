-- What is known of a design that is compiled.
use Rattle.std.specs.Prelude.{◌≡◌, ℕ, List}
use Rattle.vs_design.specs.Designs.{Design}
use Rattle.vs_design.specs.Accepted.{IsAcceptedDesign}
use Rattle.vs_flat.specs.Arena.{Arena}
use Rattle.vs_flat.specs.DesignOf.{design_of}
use Rattle.vs_reads.specs.Footprint.{Footprint, footprints_of}
use Rattle.vs_clock.specs.Clocked.{Clocked, AreClocksOf, AreResets}
use Rattle.vs_clock.specs.Nets.{AreNets}
use Rattle.vs_program.specs.Compiled.{IsAcceptedAt}

-- the design is accepted by some names of its clocks, or without one, and this is what is told of those clocks
pub record IsAcceptedBy (d : Design) (c : Clocked) : Type 0 where
  pub names : List (List ℕ)
  pub accepted : IsAcceptedDesign d names
  pub clocks : AreClocksOf d names c

-- the design is accepted by some names of its clocks, or without one
abbrev pub IsAccepted : Design → Type 0
IsAccepted d = (names : List (List ℕ)) × IsAcceptedDesign d names

-- a flat design, and the bits of its clocks
pub record Known : Type 0 where
  pub arena : Arena
  pub clocks : List ℕ

-- the design is accepted, and these are its footprints, the nets of its clocks and its resets
pub record AreFacts (a : Arena) (footprints : List Footprint) (clocks : Clocked) : Type 0 where
  pub accepted : IsAcceptedAt (design_of a) clocks.bits
  pub footprints_are : footprints ≡ footprints_of (design_of a)
  pub nets : AreNets (design_of a) clocks.bits clocks.nets
  pub resets : AreResets a clocks
