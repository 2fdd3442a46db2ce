-- Worked calls: those of a reset, and those of a sleeping block.
use Rattle.std.specs.Prelude.{◌≡◌, ℕ, List, [], ◌∷◌, ◌++◌, Option, Some, None}
use Rattle.vs_net.specs.Network.{Reset}
use Rattle.vs_design.specs.Designs.{Process, Design}
use Rattle.vs_design.specs.Resets.{reset_of}
use Rattle.vs_design.specs.ExampleDesigns.{resettable, reset_through_port}
use Rattle.vs_kern_logic.specs.declared.costs.Kernel.TheVariants.{Copy, And, LogicalNot, CaseNotEqual}
use Rattle.vs_kern_select.specs.declared.costs.Kernel.TheVariants.{Branch}
use Rattle.vs_code.specs.declared.kernels.AnyKernel.{AnyKernel}
use Rattle.vs_code.specs.declared.kernels.AnyKernel.TheVariants.{Logic, Select}
use Rattle.vs_code.specs.Calls.{Call, length_of}
use Rattle.vs_program.specs.Layouts.{layout_of}
use Rattle.vs_reset.specs.Calls.{reset_calls}
use Rattle.vs_reset.specs.Sleepers.{sleeper_calls}

-- a call that keeps nothing on the way
abbrev pub call : AnyKernel → List (List ℕ) → List ℕ → Call
call kernel args to = record { kernel = kernel; args = args; to = to; scratch = [] }

-- the calls of a reset that sets these bits, by a layout whose registers they are
abbrev pub calls_with : Design → List ℕ → Option Reset → List Call
calls_with d bits None = []
calls_with d bits (Some r) = reset_calls (layout_of d bits) r bits

-- those of the resets of all processes of the list
abbrev pub calls_of : Design → List ℕ → List Process → List Call
calls_of d bits [] = []
calls_of d bits (x ∷ xs) = calls_with d bits (reset_of d (0 ∷ []) x) ++ calls_of d bits xs

-- of `always @* y = q & 1'b0;`, where q is bit 3 and y bit 4, the mask slot 10, the temporaries from slot 11 on
abbrev pub block_calls : List Call
block_calls = sleeper_calls 10 11 (3 ∷ []) (4 ∷ []) (11 ∷ []) (call (Logic And) ((7 ∷ []) ∷ (0 ∷ []) ∷ []) (11 ∷ []) ∷ [])

pub record CallsComputed : Type 0 where
  -- `if (r) q <= 1'b0;` on a rising edge: r in slot 5, q in slot 7; three stores
  pub rising : calls_of resettable (3 ∷ []) resettable.processes
      ≡ call (Logic Copy) ((5 ∷ []) ∷ []) (9 ∷ []) ∷ call (Select Branch) ((9 ∷ []) ∷ (0 ∷ []) ∷ (7 ∷ []) ∷ []) (10 ∷ []) ∷ call (Logic Copy) ((10 ∷ []) ∷ []) (7 ∷ []) ∷ []
  pub rising_stores : length_of (calls_of resettable (3 ∷ []) resettable.processes) ≡ 3
  -- `if (!r) q <= 1'b1;` on a falling one, through a port: the input r of the top in slot 5, q in slot 11
  pub falling : calls_of reset_through_port (7 ∷ []) reset_through_port.processes
      ≡ call (Logic LogicalNot) ((5 ∷ []) ∷ []) (13 ∷ []) ∷ call (Select Branch) ((13 ∷ []) ∷ (1 ∷ []) ∷ (11 ∷ []) ∷ []) (14 ∷ []) ∷ call (Logic Copy) ((14 ∷ []) ∷ []) (11 ∷ []) ∷ []
  -- the comparison with 0 and x, the mask, the statement, and the value or x: four stores
  pub asleep : block_calls
      ≡ call (Logic CaseNotEqual) ((10 ∷ 7 ∷ []) ∷ (0 ∷ 2 ∷ []) ∷ []) (11 ∷ []) ∷ call (Logic Copy) ((11 ∷ []) ∷ []) (10 ∷ []) ∷ call (Logic And) ((7 ∷ []) ∷ (0 ∷ []) ∷ []) (11 ∷ [])
      ∷ call (Select Branch) ((10 ∷ []) ∷ (11 ∷ []) ∷ (2 ∷ []) ∷ []) (8 ∷ []) ∷ []
  pub asleep_stores : length_of block_calls ≡ 4
