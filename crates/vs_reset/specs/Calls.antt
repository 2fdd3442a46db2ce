-- The calls of a reset (IEEE 1364-2005, 9.7.2 and 9.9.2).
use Rattle.std.specs.Prelude.{◌≡◌, ℕ, suc, ◌+◌, ◌≤◌, ◌^◌, true, List, [], ◌∷◌, map, length, Some, None, slice_get, Option}
use Rattle.vs_four.specs.declared.Bit4.{Bit4}
use Rattle.vs_four.specs.declared.Bit4.TheVariants.{Zero, One, X, Z}
use Rattle.vs_net.specs.Network.{Edge, Posedge, Negedge, Reset, branch, write_all, flatten}
use Rattle.vs_design.specs.Clocks.{clock_bits}
use Rattle.vs_design.specs.Values.{count_from}
use Rattle.vs_design.specs.Designs.{Process, is_clocked, Design}
use Rattle.vs_design.specs.Resets.{reset_of}
use Rattle.vs_design.specs.Sizes.{size}
use Rattle.vs_design.specs.Accepted.{IsAcceptedDesign}
use Rattle.vs_cone.specs.Lists.{HasEachOnce}
use Rattle.vs_cone.specs.Given.{bits_of_reset}
use Rattle.vs_kern_logic.specs.declared.costs.Kernel.TheVariants.{Copy, LogicalNot}
use Rattle.vs_kern_select.specs.declared.costs.Kernel.TheVariants.{Branch}
use Rattle.vs_code.specs.declared.kernels.AnyKernel.{AnyKernel}
use Rattle.vs_code.specs.declared.kernels.AnyKernel.TheVariants.{Logic, Select}
use Rattle.vs_code.specs.Calls.{Call}
use Rattle.vs_program.specs.Lowered.{Layout, home, IsLoweredReset}
use Rattle.vs_program.specs.Layouts.{IsLayoutOf}

-- the slot that holds a constant
abbrev pub constant_slot : Bit4 → ℕ
constant_slot Zero = 0
constant_slot One = 1
constant_slot X = 2
constant_slot Z = 3

-- the last value that a reset gives a bit, at once or by an update
abbrev pub set_value : Reset → ℕ → Bit4
set_value r b = write_all (λ c. X) (flatten (branch r)) b

-- the kernel that gives 1 where the input has the value to which this edge goes, and 0 or an unknown value elsewhere
abbrev pub condition_kernel : Edge → AnyKernel
condition_kernel Posedge = Logic Copy
condition_kernel Negedge = Logic LogicalNot

-- the first temporary: whether the reset is active
abbrev pub condition_call : Layout → Reset → Call
condition_call l r = record { kernel = condition_kernel r.edge; args = (home r.input ∷ []) ∷ []; to = l.first_temp ∷ []; scratch = [] }

-- the temporaries behind it, one for each of these bits
abbrev pub between : Layout → List ℕ → List ℕ
between l bits = count_from (suc l.first_temp) (length bits)

-- for each of these bits the slot of the value that the reset gives it
abbrev pub constants_of : Reset → List ℕ → List ℕ
constants_of r bits = map (λ b. constant_slot (set_value r b)) bits

-- these values where the reset is active, else the values of the bits
abbrev pub choice_call : Layout → Reset → List ℕ → Call
choice_call l r bits = record { kernel = Select Branch; args = (l.first_temp ∷ []) ∷ constants_of r bits ∷ map home bits ∷ []; to = between l bits; scratch = [] }

-- what was chosen to the bits: a call writes none of its arguments, so this is one of its own
abbrev pub copy_call : Layout → List ℕ → Call
copy_call l bits = record { kernel = Logic Copy; args = between l bits ∷ []; to = map home bits; scratch = [] }

-- the calls of a reset that sets these bits: whether it is active, the bits' values with it, and their copy
abbrev pub reset_calls : Layout → Reset → List ℕ → List Call
reset_calls l r [] = []
reset_calls l r (b ∷ bits) = condition_call l r ∷ choice_call l r (b ∷ bits) ∷ copy_call l (b ∷ bits) ∷ []

-- they are calls of the block's reset, by a list of the bits that it sets, each once, and where all slots can be numbered
abbrev pub ResetCallsAre : Type 0
ResetCallsAre =
    (d : Design) (names : List (List ℕ)) (a : IsAcceptedDesign d names) (l : Layout) → IsLayoutOf d l → l.first_temp + size d ≤ 2 ^ 32
    → (p : ℕ) (x : Process) → slice_get d.processes p ≡ Some x → is_clocked x ≡ true
    → (r : Reset) → reset_of d (clock_bits a.clocks) x ≡ Some r → (bits : List ℕ) → HasEachOnce (bits_of_reset (Some r)) bits
    → IsLoweredReset l (Some r) x (reset_calls l r bits)

-- of a block without a reset there need be none
abbrev pub NoneAreNeeded : Type 0
NoneAreNeeded = (l : Layout) (x : Process) → IsLoweredReset l None x []
