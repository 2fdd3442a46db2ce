-- A product by a constant, as a sum of moved copies of the other operand.
use Rattle.std.specs.Prelude.{◌≡◌, ℕ, ◌+◌, ◌-◌, ◌*◌, ◌<◌, ◌≤◌, ◌^◌, ◌==◌, true, List, [], ◌∷◌, ◌++◌, map, length, count_by, All}
use Rattle.vs_four.specs.Logic.{all_known}
use Rattle.vs_four.specs.Numbers.{mul}
use Rattle.vs_kern_arith.specs.Costs.{cost_of}
use Rattle.vs_kern_arith.specs.declared.costs.Kernel.TheVariants.{Mul}
use Rattle.vs_code.specs.Calls.{Call, State, AreCalled, length_of}
use Rattle.vs_program.specs.Lowered.{HasConstants}
use Rattle.vs_values.specs.Added.{AreAdded, IsNew}
use Rattle.vs_values.specs.Coded.{Coding}
use Rattle.vs_values.specs.Constants.{AreConstant, constant_bits}

-- how many bits of a constant are 1
abbrev pub ones : List ℕ → ℕ
ones c = count_by (λ slot. slot == 1) c

-- the stores of a call of `*` for vectors of this length
abbrev pub product_cost : ℕ → ℕ
product_cost w = cost_of Mul (w ∷ w ∷ w ∷ [])

-- A sum of a copy for each 1 makes as many stores as there are bits for each of them, and once more. With no more ones than this that is no more than a call of `*` makes.
abbrev pub IsCheap : List ℕ → Type 0
IsCheap c = AreConstant c × (2 * ones c ≤ length c + 1)

-- a vector whose slots have been written, and room for so many stores more
pub record HasRoom (code : Coding) (a : List ℕ) (most : ℕ) : Type 0 where
  pub some : 1 ≤ length a
  pub short : length a ≤ 64
  pub constants : 4 ≤ code.next
  pub below : All (λ slot. slot < code.next) a
  pub slots : code.next + most < 2 ^ 32
  pub few : length_of code.calls + most ≤ 2 ^ 32

-- calls that are added write new slots alone, and leave a lane as this says, whatever it had before them
pub record Adds (old new : Coding) (most : ℕ) (Leaves : State → State → Type 0) : Type 0 where
  pub calls : List Call
  pub is : new.calls ≡ old.calls ++ calls
  pub added : AreAdded old.next calls new.next most
  pub values : (before after : State) → HasConstants before → AreCalled calls before after → Leaves before after

-- the slots `to` have the product of the vector in `a` and this constant, where that vector has no x and no z; each copy after the first one is a sum
pub record AddsCopies (old new : Coding) (a c to : List ℕ) : Type 0 where
  pub adds : Adds old new ((ones c - 1) * length a) (λ before after. all_known (map before a) ≡ true → map after to ≡ mul (map before a) (constant_bits c))
  pub below : All (λ slot. slot < new.next) to
  pub long : length to ≡ length a

-- the slots `to` have the product of the vectors in `a` and in `b`
pub record AddsProduct (old new : Coding) (a b : List ℕ) (most : ℕ) (to : List ℕ) : Type 0 where
  pub adds : Adds old new most (λ before after. map after to ≡ mul (map before a) (map before b))
  pub below : All (λ slot. slot < new.next) to
  pub new_slots : All (IsNew old.next) to
  pub long : length to ≡ length a
