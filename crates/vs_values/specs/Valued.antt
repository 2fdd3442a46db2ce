-- What the lowering of an expression gives.
use Rattle.std.specs.Prelude.{◌≡◌, ◌⊎◌, ℕ, ◌<◌, ◌≤◌, Bool, true, List, [], ◌∷◌, ◌++◌, length, slice_index, All}
use Rattle.vs_code.specs.Calls.{Call}
use Rattle.vs_design.specs.Expressions.{Expression, is_constant}
use Rattle.vs_design.specs.Values.{value}
use Rattle.vs_design.specs.Sizes.{weight}
use Rattle.vs_design.specs.Footprints.{contains, read_bits}
use Rattle.vs_values.specs.Added.{AreValues}
use Rattle.vs_values.specs.Constants.{AreConstant}

-- a constant's slot, a new one, or that of one of these bits
abbrev pub IsSource : List ℕ → ℕ → List ℕ → ℕ → Type 0
IsSource env mark bits slot = (slot < 4) ⊎ ((mark ≤ slot) ⊎ ((b : ℕ) × (contains bits b ≡ true) × (slice_index env b ≡ slot)))

-- The slots `to` have the expression's value in this length and sign. Its calls make at most as many stores as it weighs, a constant
-- expression has constants' slots, and a slot that is not new is a constant's or that of a bit that the expression reads.
pub record IsValue (env : List ℕ) (mark : ℕ) (e : Expression) (w : ℕ) (signed : Bool) (calls : List Call) (to : List ℕ) (next : ℕ) : Type 0 where
  pub values : AreValues env mark calls (to ∷ []) next (weight e w) (λ state. value e w signed state ∷ [])
  pub length : length to ≡ w
  pub constant : is_constant e ≡ true → AreConstant to
  pub sources : All (IsSource env mark (read_bits e)) to

-- what is added to a program, its calls and its least new slot before and after, for this value
pub record AddsValue (env : List ℕ) (old : List Call) (mark : ℕ) (new : List Call) (next : ℕ) (e : Expression) (w : ℕ) (signed : Bool) (to : List ℕ) : Type 0 where
  pub calls : List Call
  pub is : new ≡ old ++ calls
  pub value : IsValue env mark e w signed calls to next
