-- Which processes run in each kind of time slot, and what a program has besides their calls.
use Rattle.std.specs.Prelude.{◌≡◌, ℕ, ◌+◌, ◌<◌, ◌≤◌, Bool, false, List, [], ◌∷◌, ◌++◌, map, length, if◌then◌else◌, Option, Some, None, slice_get, slice_index_or, All}
use Rattle.vs_four.specs.declared.Bit4.{Bit4}
use Rattle.vs_four.specs.declared.Bit4.TheVariants.{Zero, One, X, Z}
use Rattle.vs_design.specs.Designs.{Process, is_clocked, Design, bit_count}
use Rattle.vs_design.specs.Initials.{start_value}
use Rattle.vs_design.specs.Sizes.{process_weight}
use Rattle.vs_design.specs.Resets.{reset_of}
use Rattle.vs_cone.specs.Given.{data_bits, bits_of_reset, fall_bits}
use Rattle.vs_cone.specs.Counts.{clocked, stores_of}
use Rattle.vs_program.specs.declared.compiled.Span.{Span}
use Rattle.vs_program.specs.Lowered.{Layout}
use Rattle.vs_program.specs.Layouts.{AreRegisters, IsLayoutOf, first_mask, sleepers, slots_of_design}
use Rattle.vs_program.specs.Compiled.{span_of, shown_signals}
use Rattle.vs_program.specs.Made.{AreClockNets, first_processes}
use Rattle.vs_assemble.specs.Flags.{HasBitsOf}

-- the stores that a process may make; where there is none, none
abbrev pub may_store_or : Design → Option Process → ℕ
may_store_or d None = 0
may_store_or d (Some x) = stores_of d x

-- those of the process of this number
abbrev pub may_store : Design → ℕ → ℕ
may_store d p = may_store_or d (slice_get d.processes p)

-- whether it is a clocked block
abbrev pub is_clocked_or : Option Process → Bool
is_clocked_or None = false
is_clocked_or (Some x) = is_clocked x

-- the bits that its reset sets
abbrev pub reset_bits_or : Design → List ℕ → Option Process → List ℕ
reset_bits_or d clocks None = []
reset_bits_or d clocks (Some x) = if is_clocked x then bits_of_reset (reset_of d clocks x) else []

-- the layout is one of the design, and its temporaries stand right behind the masks
pub record IsTightLayout (d : Design) (l : Layout) : Type 0 where
  pub layout : IsLayoutOf d l
  pub first : l.first_temp ≡ first_mask d + length (sleepers d)

-- the temporaries of each process have room
pub record HasRoom (d : Design) (l : Layout) : Type 0 where
  pub room : (q : ℕ) (x : Process) → slice_get d.processes q ≡ Some x → l.first_temp + process_weight x ≤ slots_of_design d

-- the processes that settle a first slot, in a level order; the clocked blocks; the bits of the registers; and the bits that change where the clocks fall
pub record IsPlanOf (d : Design) (clocks : List ℕ) (order settling blocks registers falling : List ℕ) : Type 0 where
  pub settling_are : settling ≡ first_processes d clocks order
  pub blocks_are : blocks ≡ clocked d
  pub registers_are : AreRegisters d registers
  pub registers_below : All (λ b. b < bit_count d) registers
  pub falling_are : HasBitsOf (bit_count d) falling (fall_bits d clocks)

-- these are the values that the bits have before slot 0: what initial processes leave in them (9.9.1), and else z in a net and x in an input or a variable (4.2)
pub record AreStarts (d : Design) (starts : List Bit4) : Type 0 where
  pub count : length starts ≡ bit_count d
  pub values : (λ b. slice_index_or starts b X) ≡ start_value d

-- what the slots of the constants and of the bits begin with, where the bits begin with these values
abbrev pub begin_bits : List Bit4 → List Bit4
begin_bits starts = (Zero ∷ One ∷ X ∷ Z ∷ []) ++ starts

-- what a program has besides its calls: the design's bits, data inputs, clock nets and shown signals, and what the bits begin with
pub record IsFrameOf (d : Design) (clocks : List ℕ) (bits : ℕ) (kept inputs nets : List ℕ) (initial : List Bit4) (signals : List Span) : Type 0 where
  pub bits_are : bits ≡ bit_count d
  pub inputs_are : inputs ≡ data_bits d clocks
  pub clocks_are : kept ≡ clocks
  pub nets_are : AreClockNets d clocks nets
  pub initial_is : (starts : List Bit4) × AreStarts d starts × (initial ≡ begin_bits starts)
  pub signals_are : signals ≡ map span_of (shown_signals d)
