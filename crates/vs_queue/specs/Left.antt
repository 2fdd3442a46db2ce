-- The inputs that are left to be driven in a slot, and what they are driven by.
use Rattle.std.specs.Prelude.{◌≡◌, ℕ, ◌+◌, List, drop, Option, Some, None}
use Rattle.vs_four.specs.declared.Bit4.{Bit4}
use Rattle.vs_four.specs.declared.Bit4.TheVariants.{Zero, One}
use Rattle.vs_net.specs.Queue.{Slot, Fall, Rise}
use Rattle.vs_design.specs.Expressions.{Signal}
use Rattle.vs_events.specs.Held.{Events}
use Rattle.vs_events.specs.Beginning.{after_drives}
use Rattle.vs_queue.specs.Driven.{Vector, data_inputs, AreGiven, drives_from}

-- these inputs have the values of the vector from this one on
abbrev pub IsLeft : List ℕ → List Signal → ℕ → Option Vector → Slot → Type 0
IsLeft clocks ss taken (Some vector) (Fall v) = AreGiven (data_inputs clocks ss) (drop taken vector) v
IsLeft clocks ss taken None Rise = Unit {0}
IsLeft clocks ss taken _ _ = ⊥

-- what an input is driven by
abbrev pub level_of : Option Vector → Bit4
level_of (Some vector) = Zero
level_of None = One

-- the lists so far, with what is left to be driven
pub record AreSoFar (clocks : List ℕ) (vector : Option Vector) (all : List Signal) (count : ℕ) (first now : Events) (i taken : ℕ) (slot : Slot) : Type 0 where
  pub driven : after_drives now (drives_from clocks slot (count + i) (drop i all)) ≡ after_drives first (drives_from clocks slot count all)
  pub left : IsLeft clocks (drop i all) taken vector slot
