-- Calls of kernels, one after the other, and what they do to the slots of one lane.
use Rattle.std.specs.Prelude.{◌≡◌, ℕ, ◌+◌, ◌<◌, ◌≤◌, ◌^◌, max, true, List, [], ◌∷◌, ◌++◌, map, length, sum_by, All, Contains}
use Rattle.std.specs.List.{concat, flat_map}
use Rattle.vs_four.specs.declared.Bit4.{Bit4}
use Rattle.vs_plane.specs.Kernels.{AreTargets, IsArgument}
use Rattle.vs_code.specs.declared.kernels.AnyKernel.{AnyKernel}
use Rattle.vs_code.specs.Kernels.{operator_of, takes, cost_of, room_of, weight_of}

-- one call of a kernel: the slots of each argument, of the value, and of what it keeps on the way
pub record Call : Type 0 where
  pub kernel : AnyKernel
  pub args : List (List ℕ)
  pub to : List ℕ
  pub scratch : List ℕ

-- ---- which calls there are

-- the lengths of the arguments in their order, and then that of the value
abbrev pub lengths_of : Call → List ℕ
lengths_of call = map length call.args ++ length call.to ∷ []

-- the kernel takes arguments and a value of these lengths, each of fewer than 2^32 bits; what it writes is never an argument, and no slot
-- of it stands twice
pub record IsCall (call : Call) : Type 0 where
  pub lengths : takes call.kernel (lengths_of call) ≡ true
  pub short : All (λ n. n < 2 ^ 32) (lengths_of call)
  pub room : room_of call.kernel (lengths_of call) ≤ length call.scratch
  pub targets : AreTargets (2 ^ 32) call.to call.scratch
  pub arguments : All (λ arg. IsArgument (2 ^ 32) arg call.to call.scratch) call.args

-- ---- what they do to one lane

-- the bit that a lane has in each slot
abbrev pub State : Type 0
State = ℕ → Bit4

-- the slots of the value have what the operator gives for the vectors that stood in the arguments, and slots that the call doesn't write
-- stay
pub record IsCalled (call : Call) (before after : State) : Type 0 where
  pub value : map after call.to ≡ operator_of call.kernel (length call.to) (map (λ arg. map before arg) call.args)
  pub kept : (slot : ℕ) → ¬ Contains call.to slot → ¬ Contains call.scratch slot → after slot ≡ before slot

-- the calls one after the other: each finds what those before it left
abbrev pub AreCalled : List Call → State → State → Type 0
AreCalled [] before after = (slot : ℕ) → after slot ≡ before slot
AreCalled (call ∷ calls) before after = (middle : State) × IsCalled call before middle × AreCalled calls middle after

-- ---- what they cost, and the slots that they name

abbrev pub call_cost : Call → ℕ
call_cost call = cost_of call.kernel (lengths_of call)

abbrev pub call_weight : Call → ℕ
call_weight call = weight_of call.kernel (lengths_of call)

-- the stores of all calls
abbrev pub length_of : List Call → ℕ
length_of calls = sum_by call_cost calls

-- what they weigh together in the size of a design
abbrev pub weight_of_calls : List Call → ℕ
weight_of_calls calls = sum_by call_weight calls

-- the slots that a call names, and those of them that it writes
abbrev pub call_slots : Call → List ℕ
call_slots call = concat call.args ++ (call.to ++ call.scratch)

abbrev pub call_targets : Call → List ℕ
call_targets call = call.to ++ call.scratch

abbrev pub slots_of : List Call → List ℕ
slots_of calls = flat_map call_slots calls

abbrev pub targets_of : List Call → List ℕ
targets_of calls = flat_map call_targets calls

-- the least number that is above each of these
abbrev pub count_for : List ℕ → ℕ
count_for [] = 0
count_for (slot ∷ slots) = max (slot + 1) (count_for slots)
