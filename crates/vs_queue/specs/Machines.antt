-- What the queue of a design is executed with.
use Rattle.std.specs.Prelude.{◌≡◌, ℕ, Bool, List, slice_get, Some}
use Rattle.vs_design.specs.Designs.{Design}
use Rattle.vs_design.specs.Designs as D
use Rattle.vs_design.specs.Networks.{network_of, process_of}
use Rattle.vs_design.specs.Accepted.{IsAcceptedDesign}
use Rattle.vs_flat.specs.Arena.{Arena}
use Rattle.vs_flat.specs.DesignOf.{design_of}
use Rattle.vs_clock.specs.Clocked.{Clocked, AreClocksOf}
use Rattle.vs_events.specs.declared.listener.Listener.{Listener}
use Rattle.vs_queue.specs.Spare.{has_keeper}
use Rattle.vs_queue.specs.Listens.{listeners_of}

-- the design is accepted by some names of its clocks, or without a clock, and this is what is told of those clocks
pub record IsAcceptedBy (d : Design) (c : Clocked) : Type 0 where
  pub names : List (List ℕ)
  pub accepted : IsAcceptedDesign d names
  pub clocks : AreClocksOf d names c

-- it is accepted, these are its listeners, and it is told whether initial processes alone write some bits
pub record IsMachine (a : Arena) (c : Clocked) (wiring : List (List Listener)) (keeper : Bool) : Type 0 where
  pub accepted : IsAcceptedBy (design_of a) c
  pub wiring_is : wiring ≡ listeners_of (design_of a) c.bits
  pub keeper_is : keeper ≡ has_keeper (design_of a)

-- the process of this number is an assign or a block of the design, and that in its network
pub record IsProcess (d : Design) (clocks : List ℕ) (p : ℕ) (assign : Bool) : Type 0 where
  pub process : D.Process
  pub at : slice_get d.processes p ≡ Some process
  pub kind_is : D.is_assign process ≡ assign
  pub is : (network_of d clocks).process p ≡ process_of d clocks process
