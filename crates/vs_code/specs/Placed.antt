-- Calls whose lists of slots stand in one arena.
use Rattle.std.specs.Prelude.{◌≡◌, ℕ, ◌+◌, ◌≤◌, List, [], ◌∷◌, ◌++◌, map, length, take, drop, sum}
use Rattle.vs_code.specs.declared.kernels.AnyKernel.{AnyKernel}
use Rattle.vs_code.specs.declared.placed.Lengths.{Lengths}
use Rattle.vs_code.specs.declared.placed.Lengths.TheVariants.{One, Two, Three}
use Rattle.vs_code.specs.declared.placed.Placed.{Placed}
use Rattle.vs_code.specs.Kernels.{cost_of}
use Rattle.vs_code.specs.Calls.{Call}

-- the lengths of the arguments, in their order
abbrev pub lengths_in : Lengths → List ℕ
lengths_in (One a) = a ∷ []
lengths_in (Two a b) = a ∷ b ∷ []
lengths_in (Three a b c) = a ∷ b ∷ c ∷ []

-- the lists of these lengths that stand in front, one behind the other
abbrev pub lists_in_front : List ℕ → List ℕ → List (List ℕ)
lists_in_front [] slots = []
lists_in_front (n ∷ ns) slots = take n slots ∷ lists_in_front ns (drop n slots)

-- what stands behind them
abbrev pub behind : List ℕ → List ℕ → List ℕ
behind [] slots = slots
behind (n ∷ ns) slots = behind ns (drop n slots)

-- the call whose lists, of these lengths, stand in front: that of each argument, of the value, and of the scratch
abbrev pub call_in_front : AnyKernel → List ℕ → ℕ → ℕ → List ℕ → Call
call_in_front kernel ns to scratch slots = record {
  kernel = kernel;
  args = lists_in_front ns slots;
  to = take to (behind ns slots);
  scratch = take scratch (drop to (behind ns slots));
}

-- the call whose lists stand in the arena
abbrev pub call_at : List ℕ → Placed → Call
call_at arena placed = call_in_front placed.kernel (lengths_in placed.args) placed.to placed.scratch (drop placed.first arena)

abbrev pub calls_at : List ℕ → List Placed → List Call
calls_at arena calls = map (call_at arena) calls

-- they stand within it
abbrev pub IsWithin : List ℕ → Placed → Type 0
IsWithin arena placed = placed.first + (sum (lengths_in placed.args) + (placed.to + placed.scratch)) ≤ length arena

-- an arena with nothing or more behind it
abbrev pub IsLonger : List ℕ → List ℕ → Type 0
IsLonger old new = (more : List ℕ) × (new ≡ old ++ more)

-- the lengths of the arguments in their order and then that of the value, and the stores that they cost
abbrev pub lengths_at : Placed → List ℕ
lengths_at placed = lengths_in placed.args ++ placed.to ∷ []

abbrev pub cost_at : Placed → ℕ
cost_at placed = cost_of placed.kernel (lengths_at placed)
