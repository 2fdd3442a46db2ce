-- What a program of a design does in each time slot (IEEE 1364-2005, clause 11).
use Rattle.std.specs.Prelude.{◌≡◌, ℕ, ◌<◌, ◌≤◌, true, false, List, Option, length, map}
use Rattle.vs_four.specs.declared.Bit4.{Bit4}
use Rattle.vs_four.specs.declared.Bit4.TheVariants.{Zero, One, X}
use Rattle.vs_net.specs.Network as N
use Rattle.vs_net.specs.Queue.{Slot, Fall, Rise}
use Rattle.vs_net.specs.Solution.{beginning, IsSlotEnd}
use Rattle.vs_design.specs.Expressions.{Signal, signal_length}
use Rattle.vs_design.specs.Values.{count_from}
use Rattle.vs_design.specs.Designs.{Design, bit_count}
use Rattle.vs_design.specs.Footprints.{contains}
pub use Rattle.vs_design.specs.Footprints.{shown_signals}
use Rattle.vs_design.specs.Clocks.{clock_bits, own_nets}
use Rattle.vs_design.specs.Networks.{network_of}
use Rattle.vs_design.specs.SlotValues.{clock_value}
use Rattle.vs_design.specs.Sizes.{size}
use Rattle.vs_design.specs.Accepted.{IsAcceptedDesign}
use Rattle.vs_cone.specs.Laws.{IsSettled}
use Rattle.vs_cone.specs.Given.{data_bits}
use Rattle.vs_code.specs.Calls.{State, AreCalled}
use Rattle.vs_program.specs.declared.compiled.Span.{Span}
use Rattle.vs_program.specs.Lowered.{home, HasConstants}
use Rattle.vs_program.specs.Layouts.{slots_of_design}
use Rattle.vs_program.specs.Masks.{HaveMasks}
use Rattle.vs_program.specs.Program.{Program, values, initial_slots, first_stores, fall_stores, rise_stores}

-- the bits that a signal has
abbrev pub span_of : Signal → Span
span_of s = record { first = s.first; length = signal_length s }

-- the bits of a span, least significant first
abbrev pub span_bits : Span → List ℕ
span_bits s = count_from s.first s.length

-- the clock nets have this value
pub record IsClocked (p : Program) (v : Bit4) (slots : State) : Type 0 where
  pub nets : (b : ℕ) → contains p.nets b ≡ true → slots (home b) ≡ v

-- the data inputs have got a vector, and the clocks have fallen; all else is as before
pub record Falls (p : Program) (vector : N.State) (before after : State) : Type 0 where
  pub constants : (slot : ℕ) → slot < 4 → after slot ≡ before slot
  pub clock_is : IsClocked p Zero after
  pub inputs : (b : ℕ) → contains p.inputs b ≡ true → contains p.nets b ≡ false → after (home b) ≡ vector b
  pub others : (b : ℕ) → contains p.inputs b ≡ false → contains p.nets b ≡ false → after (home b) ≡ before (home b)
  pub behind : (slot : ℕ) → home p.bits ≤ slot → after slot ≡ before slot

-- the clocks have risen; all else is as before
pub record Rises (p : Program) (before after : State) : Type 0 where
  pub constants : (slot : ℕ) → slot < 4 → after slot ≡ before slot
  pub clock_is : IsClocked p One after
  pub others : (b : ℕ) → contains p.nets b ≡ false → after (home b) ≡ before (home b)
  pub behind : (slot : ℕ) → home p.bits ≤ slot → after slot ≡ before slot

-- A lane's slots hold the values at the end of this time slot, the constants, and the masks. The clocks' level before it was this one
pub record IsEnd (d : Design) (clocks : List ℕ) (p : Program) (level : Bit4) (before : State) (slot : Slot) (after : State) : Type 0 where
  pub constants : HasConstants after
  pub masks : HaveMasks d clocks p.bits (clock_value slot) after
  pub ends : IsSlotEnd (network_of d clocks) (values p.bits clocks level before) slot (values p.bits clocks (clock_value slot) after)

-- A lane's slots hold the constants, settled values of the bits, and the masks, where the clocks have this level: so they do at the end of every slot
pub record IsReached (d : Design) (clocks : List ℕ) (p : Program) (level : Bit4) (slots : State) : Type 0 where
  pub constants : HasConstants slots
  pub masks : HaveMasks d clocks p.bits level slots
  pub settled : IsSettled (network_of d clocks) (values p.bits clocks level slots)

-- the program is one of the design whose clocks are these bits
pub record IsProgramOf (d : Design) (clocks : List ℕ) (p : Program) : Type 0 where
  pub bits : p.bits ≡ bit_count d
  pub clocks_are : p.clocks ≡ clocks
  pub inputs : p.inputs ≡ data_bits d clocks
  pub nets : (b : ℕ) → contains p.nets b ≡ contains (own_nets d clocks) b
  pub signals : p.signals ≡ map span_of (shown_signals d)
  -- it begins with the constants, and with the values that the bits have before slot 0: what initial processes leave in them (9.9.1), and else those before anything writes them (4.2)
  pub constants : HasConstants (initial_slots p)
  pub starts : values p.bits clocks X (initial_slots p) ≡ beginning (network_of d clocks)
  pub begins : HaveMasks d clocks p.bits X (initial_slots p)
  -- in a first slot the clocks fall: whatever the values at its beginning, where the masks fit them the program leaves those at its end
  pub first : (level : Bit4) (vector : N.State) (before fallen after : State) → HasConstants before → HaveMasks d clocks p.bits level before
      → Falls p vector before fallen → AreCalled p.first fallen after → IsEnd d clocks p level before (Fall vector) after
  -- and so in a later one, which begins where another has ended
  pub falls : (level : Bit4) (vector : N.State) (before fallen after : State) → IsReached d clocks p level before
      → Falls p vector before fallen → AreCalled p.fall fallen after → IsEnd d clocks p level before (Fall vector) after
  -- where the clocks rise, the registers' next values come from those before it
  pub rises : (level : Bit4) (before stepped risen after : State) → IsReached d clocks p level before
      → AreCalled p.next before stepped → Rises p stepped risen → AreCalled p.rise risen after → IsEnd d clocks p level before Rise after
  -- within the design's size
  pub first_small : first_stores p ≤ size d
  pub fall_small : fall_stores p ≤ size d
  pub rise_small : rise_stores p ≤ size d
  -- no more slots than the design's bits, a second one for each register bit, one for each sleeping block, and what one process needs on the way
  pub few_slots : length p.initial ≤ slots_of_design d

-- an accepted design whose clocks are these bits
pub record IsAcceptedAt (d : Design) (clocks : List ℕ) : Type 0 where
  pub names : List (List ℕ)
  pub accepted : IsAcceptedDesign d names
  pub clocks_are : clock_bits accepted.clocks ≡ clocks

-- what ends a time slot is what a later one may begin with
abbrev pub EndsAreReached : Type 0
EndsAreReached = (d : Design) (clocks : List ℕ) (p : Program) (level : Bit4) (before : State) (slot : Slot) (after : State) → IsEnd d clocks p level before slot after → IsReached d clocks p (clock_value slot) after
