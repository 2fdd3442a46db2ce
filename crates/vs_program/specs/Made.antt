-- Programs that are made of the calls of a design's processes.
use Rattle.std.specs.Prelude.{◌≡◌, ℕ, ◌≤◌, true, List, [], ◌∷◌, ◌++◌, map, length, Option, Some, None, slice_get}
use Rattle.vs_four.specs.declared.Bit4.TheVariants.{Zero, X}
use Rattle.vs_net.specs.Network.{Sleeper}
use Rattle.vs_design.specs.Designs.{Process, Design, bit_count}
use Rattle.vs_design.specs.Sizes.{register_bits}
use Rattle.vs_design.specs.Footprints.{contains, ascending}
use Rattle.vs_design.specs.Initials.{start_value}
use Rattle.vs_design.specs.Clocks.{clock_bits, own_nets}
use Rattle.vs_design.specs.Resets.{reset_of}
use Rattle.vs_design.specs.Sleepers.{sleeper_of}
use Rattle.vs_design.specs.Levels.{is_level_order}
use Rattle.vs_design.specs.Accepted.{IsAcceptedDesign}
use Rattle.vs_cone.specs.Cones.{cone, but_ports}
use Rattle.vs_cone.specs.Given.{data_bits, fall_bits}
use Rattle.vs_cone.specs.Counts.{clocked, stores_of}
use Rattle.vs_kern_logic.specs.declared.costs.Kernel.TheVariants.{Copy}
use Rattle.vs_code.specs.declared.kernels.AnyKernel.TheVariants.{Logic}
use Rattle.vs_code.specs.Calls.{Call, length_of}
use Rattle.vs_program.specs.Lowered.{Layout, IsLoweredProcess, IsLoweredReset, IsLoweredSleeper, HasConstants, home}
use Rattle.vs_program.specs.Layouts.{slots_of_design, AreRegisters, IsLayoutOf, sleepers, mask_of}
use Rattle.vs_program.specs.Program.{Program, IsInRange, AreIn, values, initial_slots}
use Rattle.vs_program.specs.Compiled.{IsProgramOf, span_of, shown_signals}

-- these are calls of the process, as one that sleeps or one that doesn't
abbrev pub IsLoweredAs : Layout → ℕ → Option Sleeper → Process → List Call → Type 0
IsLoweredAs l mask None x calls = IsLoweredProcess l x calls
IsLoweredAs l mask (Some s) x calls = IsLoweredSleeper l x s mask calls

-- these are calls of the process of this number
abbrev pub IsLoweredAt : Design → Layout → ℕ → List Call → Type 0
IsLoweredAt d l p calls = (x : Process) × (slice_get d.processes p ≡ Some x) × IsLoweredAs l (mask_of d p) (sleeper_of d (Some x)) x calls

-- these are calls of its reset
abbrev pub IsResetAt : Design → List ℕ → Layout → ℕ → List Call → Type 0
IsResetAt d clocks l p calls = (x : Process) × (slice_get d.processes p ≡ Some x) × IsLoweredReset l (reset_of d clocks x) x calls

-- calls that are, one after the other, each some of these of its process
abbrev pub AreJoined : (ℕ → List Call → Type 0) → List ℕ → List Call → Type 0
AreJoined each [] calls = calls ≡ []
AreJoined each (p ∷ ps) calls = (first : List Call) × (rest : List Call) × (calls ≡ first ++ rest) × each p first × AreJoined each ps rest

-- the calls of these processes, one after the other
abbrev pub AreCallsOf : Design → Layout → List ℕ → List Call → Type 0
AreCallsOf d l ps calls = AreJoined (IsLoweredAt d l) ps calls

-- the calls of their resets, one after the other
abbrev pub AreResetsOf : Design → List ℕ → Layout → List ℕ → List Call → Type 0
AreResetsOf d clocks l ps calls = AreJoined (IsResetAt d clocks l) ps calls

-- these are the clock nets among the design's bits, and no more than there are
pub record AreClockNets (d : Design) (clocks : List ℕ) (nets : List ℕ) : Type 0 where
  pub has : (b : ℕ) → contains nets b ≡ contains (own_nets d clocks) b
  pub few : length nets ≤ length (own_nets d clocks)

-- the call that copies the next values of these registers to their bits; there is none where there is no register
abbrev pub copy_shadows : Layout → List ℕ → List Call
copy_shadows l [] = []
copy_shadows l (b ∷ bs) = record { kernel = Logic Copy; args = map l.shadow (b ∷ bs) ∷ []; to = map home (b ∷ bs); scratch = [] } ∷ []

-- the processes that settle a first slot: all but the clocks' ports
abbrev pub first_processes : Design → List ℕ → List ℕ → List ℕ
first_processes d clocks order = but_ports d clocks order

-- those that settle a later one in which the clocks fall: of these the cone of the data inputs and of what resets set
abbrev pub fall_processes : Design → List ℕ → List ℕ → List ℕ
fall_processes d clocks order = cone d (fall_bits d clocks) (but_ports d clocks order)

-- those that settle one in which it rises: of these the cone of the registers
abbrev pub rise_processes : Design → List ℕ → List ℕ → List ℕ
rise_processes d clocks order = cone d (register_bits d.processes) (but_ports d clocks order)

-- the program is made of calls of the design's processes
pub record IsMadeOf (d : Design) (clocks : List ℕ) (order regs : List ℕ) (l : Layout) (p : Program) : Type 0 where
  pub bits : p.bits ≡ bit_count d
  pub clocks_are : p.clocks ≡ clocks
  pub inputs : p.inputs ≡ data_bits d clocks
  pub nets : AreClockNets d clocks p.nets
  pub registers : AreRegisters d regs
  pub signals : p.signals ≡ map span_of (shown_signals d)
  pub constants : HasConstants (initial_slots p)
  -- the bits begin with what initial processes leave in them
  pub starts : values p.bits clocks X (initial_slots p) ≡ start_value d
  pub masks : (q : ℕ) → contains (sleepers d) q ≡ true → initial_slots p (mask_of d q) ≡ Zero
  -- where the clocks fall the resets come first
  pub resets : List Call
  pub resets_are : AreResetsOf d clocks l (clocked d) resets
  pub resets_again : List Call
  pub again_are : AreResetsOf d clocks l (clocked d) resets_again
  pub settle_first : List Call
  pub first_are : AreCallsOf d l (first_processes d clocks order) settle_first
  pub first : p.first ≡ resets ++ settle_first
  pub settle_fall : List Call
  pub fall_are : AreCallsOf d l (fall_processes d clocks order) settle_fall
  pub fall : p.fall ≡ resets_again ++ settle_fall
  pub blocks : List Call
  pub blocks_are : AreCallsOf d l (clocked d) blocks
  pub next : p.next ≡ blocks ++ copy_shadows l regs
  pub rise : AreCallsOf d l (rise_processes d clocks order) p.rise
  -- there is a slot for each that the calls name
  pub slots : l.first_temp ≤ length p.initial
  pub first_in : AreIn (length p.initial) p.first
  pub fall_in : AreIn (length p.initial) p.fall
  pub next_in : AreIn (length p.initial) p.next
  pub rise_in : AreIn (length p.initial) p.rise
  pub few_slots : length p.initial ≤ slots_of_design d

-- it is a program of the design
abbrev pub ProgramsAreMade : Type 0
ProgramsAreMade =
    (d : Design) (names : List (List ℕ)) (a : IsAcceptedDesign d names) (order : List ℕ) → is_level_order d order ≡ true
    → (l : Layout) → IsLayoutOf d l
    → (regs : List ℕ) (p : Program) → IsMadeOf d (clock_bits a.clocks) order regs l p → IsProgramOf d (clock_bits a.clocks) p

-- all of its slots are there
abbrev pub ProgramsAreInRange : Type 0
ProgramsAreInRange =
    (d : Design) (names : List (List ℕ)) (a : IsAcceptedDesign d names) (order : List ℕ) → is_level_order d order ≡ true
    → (l : Layout) → IsLayoutOf d l
    → (regs : List ℕ) (p : Program) → IsMadeOf d (clock_bits a.clocks) order regs l p → IsInRange p

-- the bits of the registers in ascending order are such a list
abbrev pub RegistersInOrder : Type 0
RegistersInOrder = (d : Design) (names : List (List ℕ)) (a : IsAcceptedDesign d names) → AreRegisters d (ascending (bit_count d) (register_bits d.processes))

-- no process makes more stores than it may
abbrev pub StoresAreFew : Type 0
StoresAreFew =
    (d : Design) (l : Layout) (mask : ℕ) (x : Process) (calls : List Call)
    → IsLoweredAs l mask (sleeper_of d (Some x)) x calls → length_of calls ≤ stores_of d x

-- calls of one more process are calls of them all
abbrev pub CallsGrow : Type 0
CallsGrow =
    (d : Design) (l : Layout) (ps : List ℕ) (p : ℕ) (calls more : List Call)
    → AreCallsOf d l ps calls → IsLoweredAt d l p more → AreCallsOf d l (ps ++ p ∷ []) (calls ++ more)

-- calls of one more reset are calls of them all
abbrev pub ResetsGrow : Type 0
ResetsGrow =
    (d : Design) (clocks : List ℕ) (l : Layout) (ps : List ℕ) (p : ℕ) (calls more : List Call)
    → AreResetsOf d clocks l ps calls → IsResetAt d clocks l p more → AreResetsOf d clocks l (ps ++ p ∷ []) (calls ++ more)
