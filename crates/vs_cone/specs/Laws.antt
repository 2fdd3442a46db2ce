-- One pass over a level order ends a slot, and in a later slot one over a cone.
use Rattle.std.specs.Prelude.{◌≡◌, ℕ, true, false, List, Option}
use Rattle.vs_four.specs.declared.Bit4.{Bit4}
use Rattle.vs_net.specs.Network.{State, write_all, Network, kind, writes}
use Rattle.vs_net.specs.Queue.{Slot}
use Rattle.vs_net.specs.Solution.{given, IsSlotEnd}
use Rattle.vs_net.specs.Settle.{settle, IsFed}
use Rattle.vs_net.specs.Lawful.{Settles, IsSure}
use Rattle.vs_design.specs.Designs.{Design}
use Rattle.vs_design.specs.Footprints.{contains}
use Rattle.vs_design.specs.Clocks.{clock_bits, clock_nets}
use Rattle.vs_design.specs.Levels.{is_level_order}
use Rattle.vs_design.specs.Networks.{network_of}
use Rattle.vs_design.specs.Accepted.{IsAcceptedDesign}
use Rattle.vs_cone.specs.Cones.{cone, but_ports}

-- so it is at the end of every slot: each assign's target has the value of its right side, and the bits of each combinational block whose selectors are known have what its statement gives, or x where it sleeps on from some values before
pub record IsSettled (n : Network) (s : State) : Type 0 where
  pub from : State
  pub each : (p : ℕ) → Settles (kind (n.process p)) → IsSure n p s → write_all s (given n from p s) ≡ s

-- all clock nets have this value
pub record HaveClock (d : Design) (clocks : List ℕ) (v : Bit4) (s : State) : Type 0 where
  pub nets : (b : ℕ) → contains (clock_nets d clocks) b ≡ true → s b ≡ v

-- no assign and no combinational block writes the bits `changed`, and the state has all other bits but the clock nets as before
pub record IsChangedAt (d : Design) (clocks : List ℕ) (changed : List ℕ) (before s : State) : Type 0 where
  pub sources : (p b : ℕ) → Settles (kind ((network_of d clocks).process p)) → writes ((network_of d clocks).process p) b ≡ true
      → contains changed b ≡ false
  pub others : (b : ℕ) → contains changed b ≡ false → contains (clock_nets d clocks) b ≡ false → s b ≡ before b

-- once inputs, registers and clock nets have their values, one pass over a level order without the clocks' ports ends the slot
abbrev pub FirstSlots : Type 0
FirstSlots =
    (d : Design) (names : List (List ℕ)) (a : IsAcceptedDesign d names) (order : List ℕ) → is_level_order d order ≡ true
    → (before : State) (slot : Slot) (v : Bit4) (s : State) → IsFed (network_of d (clock_bits a.clocks)) before slot s → HaveClock d (clock_bits a.clocks) v s
    → IsSlotEnd (network_of d (clock_bits a.clocks)) before slot (settle (network_of d (clock_bits a.clocks)) before (but_ports d (clock_bits a.clocks) order) s)

-- where the slot begins with settled values, it is enough to run of these the cone of what changed
abbrev pub LaterSlots : Type 0
LaterSlots =
    (d : Design) (names : List (List ℕ)) (a : IsAcceptedDesign d names) (order : List ℕ) → is_level_order d order ≡ true
    → (before : State) (slot : Slot) (v : Bit4) (s : State) (changed : List ℕ) → IsSettled (network_of d (clock_bits a.clocks)) before
    → IsFed (network_of d (clock_bits a.clocks)) before slot s → HaveClock d (clock_bits a.clocks) v s → IsChangedAt d (clock_bits a.clocks) changed before s
    → IsSlotEnd (network_of d (clock_bits a.clocks)) before slot (settle (network_of d (clock_bits a.clocks)) before (cone d changed (but_ports d (clock_bits a.clocks) order)) s)
