-- Calls that are added to a program: they write new slots alone, and give them values of the bits that the slots before them hold.
use Rattle.std.specs.Prelude.{◌≡◌, ◌⊎◌, ℕ, ◌+◌, ◌<◌, ◌≤◌, List, [], ◌∷◌, map, length, slice_index, All}
use Rattle.std.specs.List.{range_with_len}
use Rattle.vs_four.specs.Logic.{BitList}
use Rattle.vs_net.specs.Network as N
use Rattle.vs_kern_logic.specs.declared.costs.Kernel.TheVariants as L
use Rattle.vs_code.specs.declared.kernels.AnyKernel.{AnyKernel}
use Rattle.vs_code.specs.declared.kernels.AnyKernel.TheVariants.{Logic}
use Rattle.vs_code.specs.Calls.{Call, State, IsCall, AreCalled, length_of, slots_of, targets_of}
use Rattle.vs_program.specs.Lowered.{HasConstants}

-- `mark` is the least slot that was new before the calls, and `next` the least that is after them; each new slot is paid for by a store
pub record AreAdded (mark : ℕ) (calls : List Call) (next most : ℕ) : Type 0 where
  pub are_calls : All IsCall calls
  pub named : All (λ slot. slot < next) (slots_of calls)
  pub fresh : All (λ slot. mark ≤ slot) (targets_of calls)
  pub grown : mark ≤ next
  pub paid : next ≤ mark + length_of calls
  pub stores : length_of calls ≤ most

-- the slot that holds each bit, by the bit's number: a list of slots below `mark`, above the constants' slots
pub record IsEnv (env : List ℕ) (mark : ℕ) : Type 0 where
  pub constants : 4 ≤ mark
  pub below : All (λ slot. slot < mark) env

-- a lane's slots hold the constants, and the bits' values
pub record Holds (env : List ℕ) (slots : State) (state : N.State) : Type 0 where
  pub constants : HasConstants slots
  pub bits : (b : ℕ) → b < length env → slots (slice_index env b) ≡ state b

-- the vectors that a lane has in lists of slots
abbrev pub vectors : State → List (List ℕ) → List BitList
vectors slots tos = map (λ to. map slots to) tos

-- After the calls the lists of slots `tos` have these values of whatever state of the bits the slots held before them.
pub record AreValues (env : List ℕ) (mark : ℕ) (calls : List Call) (tos : List (List ℕ)) (next most : ℕ) (are : N.State → List BitList) : Type 0 where
  pub added : AreAdded mark calls next most
  pub below : All (λ to. All (λ slot. slot < next) to) tos
  pub values : (before after : State) (state : N.State) → Holds env before state → AreCalled calls before after → vectors after tos ≡ are state

-- a call whose value gets the slots from `mark` on
abbrev pub fresh_call : AnyKernel → List (List ℕ) → ℕ → ℕ → Call
fresh_call kernel args mark width = record { kernel = kernel; args = args; to = range_with_len mark width; scratch = [] }

-- a call whose value gets these slots
abbrev pub stored_call : AnyKernel → List (List ℕ) → List ℕ → Call
stored_call kernel args to = record { kernel = kernel; args = args; to = to; scratch = [] }

-- the call that copies the values of these slots to those
abbrev pub copy_call : List ℕ → List ℕ → Call
copy_call from to = record { kernel = Logic L.Copy; args = from ∷ []; to = to; scratch = [] }

-- a constant's slot, or one that was new before the calls
abbrev pub IsNew : ℕ → ℕ → Type 0
IsNew mark slot = (slot < 4) ⊎ (mark ≤ slot)
