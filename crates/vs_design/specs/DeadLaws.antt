-- Dead nets are z throughout, so that no edge of one ever comes.
use Rattle.std.specs.Prelude.{◌≡◌, ℕ, true, List}
use Rattle.vs_four.specs.declared.Bit4.TheVariants.{Z}
use Rattle.vs_net.specs.Network.{State}
use Rattle.vs_net.specs.Queue.{Slot}
use Rattle.vs_design.specs.Designs.{Design}
use Rattle.vs_design.specs.Footprints.{contains, net_bits}
use Rattle.vs_design.specs.Clocks.{clock_bits}
use Rattle.vs_design.specs.Dead.{dead_nets, without_dead}
use Rattle.vs_design.specs.Accepted.{IsAcceptedDesign}
use Rattle.vs_design.specs.SlotValues.{IsSlotValues}

-- each is the bit of a net, which is z before anything writes it, and no variable, as which initial processes write
abbrev pub DeadNetsAreNets : Type 0
DeadNetsAreNets = (d : Design) (names : List (List ℕ)) → IsAcceptedDesign (without_dead d) names → (b : ℕ) → contains (dead_nets d) b ≡ true → contains (net_bits d) b ≡ true

-- and where all of them are z at the end of a slot, they are at the end of the next one
abbrev pub DeadNetsStay : Type 0
DeadNetsStay = (d : Design) (names : List (List ℕ)) (a : IsAcceptedDesign (without_dead d) names) (before : State) (slot : Slot) (s : State) → IsSlotValues (without_dead d) (clock_bits a.clocks) before slot s
    → ((b : ℕ) → contains (dead_nets d) b ≡ true → before b ≡ Z) → (b : ℕ) → contains (dead_nets d) b ≡ true → s b ≡ Z
