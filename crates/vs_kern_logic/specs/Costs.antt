-- The lengths that a kernel takes, those of its arguments in their order and then that of its value, and the stores that it makes.
use Rattle.std.specs.Prelude.{ℕ, ◌+◌, ◌*◌, Bool, true, false, ◌&&◌, List, [], ◌∷◌, ◌==◌, nat_le}
use Rattle.vs_four.specs.Lengths.{last_or}
use Rattle.vs_kern_logic.specs.declared.costs.Kernel.{Kernel}
use Rattle.vs_kern_logic.specs.declared.costs.Kernel.TheVariants.{Copy, Not, And, Or, Xor, Xnor, ReduceAnd, ReduceNand, ReduceOr, ReduceNor, ReduceXor, ReduceXnor, LogicalNot, LogicalAnd, LogicalOr, Equal, NotEqual, CaseEqual, CaseNotEqual, MatchesZ, MatchesX}

-- what a kernel's operands and value are
pub data Shape : Type 0 where
  -- a vector, and one as long
  Vector : Shape
  -- two vectors, and a third one, all as long
  Vectors : Shape
  -- a vector, and a bit
  Reduction : Shape
  -- two vectors of any lengths, and a bit
  Truths : Shape
  -- two vectors as long, and a bit
  Comparison : Shape

abbrev pub shape_of : Kernel → Shape
shape_of Copy = Vector
shape_of Not = Vector
shape_of And = Vectors
shape_of Or = Vectors
shape_of Xor = Vectors
shape_of Xnor = Vectors
shape_of ReduceAnd = Reduction
shape_of ReduceNand = Reduction
shape_of ReduceOr = Reduction
shape_of ReduceNor = Reduction
shape_of ReduceXor = Reduction
shape_of ReduceXnor = Reduction
shape_of LogicalNot = Reduction
shape_of LogicalAnd = Truths
shape_of LogicalOr = Truths
shape_of Equal = Comparison
shape_of NotEqual = Comparison
shape_of CaseEqual = Comparison
shape_of CaseNotEqual = Comparison
shape_of MatchesZ = Comparison
shape_of MatchesX = Comparison

-- which lengths a kernel of this shape takes; no vector is empty
abbrev pub takes : Shape → List ℕ → Bool
takes Vector (a ∷ to ∷ []) = nat_le 1 a && a == to
takes Vectors (a ∷ b ∷ to ∷ []) = nat_le 1 a && a == b && b == to
takes Reduction (a ∷ to ∷ []) = nat_le 1 a && to == 1
takes Truths (a ∷ b ∷ to ∷ []) = nat_le 1 a && nat_le 1 b && to == 1
takes Comparison (a ∷ b ∷ to ∷ []) = nat_le 1 a && a == b && to == 1
takes _ _ = false

-- whether the value is a vector
abbrev pub gives_vector : Kernel → Bool
gives_vector Copy = true
gives_vector Not = true
gives_vector And = true
gives_vector Or = true
gives_vector Xor = true
gives_vector Xnor = true
gives_vector _ = false

-- a store for each bit of the value
abbrev pub cost_of : List ℕ → ℕ
cost_of lengths = last_or 0 lengths

-- no slots on the way
abbrev pub room_of : List ℕ → ℕ
room_of lengths = 0

-- what an operation of this shape weighs
abbrev pub weight_of_shape : Shape → List ℕ → ℕ
weight_of_shape Vector (a ∷ to ∷ []) = to
weight_of_shape Vectors (a ∷ b ∷ to ∷ []) = to
weight_of_shape Reduction (a ∷ to ∷ []) = 2 * a
weight_of_shape Truths (a ∷ b ∷ to ∷ []) = a + b + 1
weight_of_shape Comparison (a ∷ b ∷ to ∷ []) = 2 * a
weight_of_shape _ _ = 0

-- as that of its shape, but `!` weighs its operand's length, and a match of `casez` or `casex` the length and one more
abbrev pub weight_of : Kernel → List ℕ → ℕ
weight_of LogicalNot (a ∷ to ∷ []) = a
weight_of MatchesZ (a ∷ b ∷ to ∷ []) = a + 1
weight_of MatchesX (a ∷ b ∷ to ∷ []) = a + 1
weight_of kernel lengths = weight_of_shape (shape_of kernel) lengths
