-- The lengths that a kernel takes, those of its arguments in their order and then that of its value, and the stores that it makes.
use Rattle.std.specs.Prelude.{ℕ, ◌+◌, ◌*◌, ◌/◌, Bool, true, false, ◌&&◌, List, [], ◌∷◌, ◌==◌, nat_le}
use Rattle.vs_four.specs.Lengths.{last_or}
use Rattle.vs_kern_arith.specs.declared.costs.Kernel.{Kernel}
use Rattle.vs_kern_arith.specs.declared.costs.Kernel.TheVariants.{Add, Sub, Mul, Neg, Less, LessEqual, Greater, GreaterEqual}

-- what a kernel's operands and value are
pub data Shape : Type 0 where
  -- a vector, and one as long
  Vector : Shape
  -- two vectors, and a third one, all as long
  Vectors : Shape
  -- two vectors as long, and a bit
  Comparison : Shape

abbrev pub shape_of : Kernel → Shape
shape_of Add = Vectors
shape_of Sub = Vectors
shape_of Mul = Vectors
shape_of Neg = Vector
shape_of (Less signed) = Comparison
shape_of (LessEqual signed) = Comparison
shape_of (Greater signed) = Comparison
shape_of (GreaterEqual signed) = Comparison

-- which lengths a kernel of this shape takes; no vector is empty
abbrev pub takes : Shape → List ℕ → Bool
takes Vector (a ∷ to ∷ []) = nat_le 1 a && a == to
takes Vectors (a ∷ b ∷ to ∷ []) = nat_le 1 a && a == b && b == to
takes Comparison (a ∷ b ∷ to ∷ []) = nat_le 1 a && a == b && to == 1
takes _ _ = false

-- whether the value is a vector
abbrev pub gives_vector : Kernel → Bool
gives_vector Add = true
gives_vector Sub = true
gives_vector Mul = true
gives_vector Neg = true
gives_vector _ = false

-- a store for each bit of the value; a product stores its value first, and then what each of its w rows changes: w bits, w - 1, and so on to 1
abbrev pub cost_of : Kernel → List ℕ → ℕ
cost_of Mul (a ∷ b ∷ to ∷ []) = to + to * (to + 1) / 2
cost_of kernel lengths = last_or 0 lengths

-- no slots on the way
abbrev pub room_of : List ℕ → ℕ
room_of lengths = 0

-- what an operation of this shape weighs
abbrev pub weight_of_shape : Shape → List ℕ → ℕ
weight_of_shape Vector (a ∷ to ∷ []) = 4 * to
weight_of_shape Vectors (a ∷ b ∷ to ∷ []) = 4 * to
weight_of_shape Comparison (a ∷ b ∷ to ∷ []) = 3 * a
weight_of_shape _ _ = 0

-- as that of its shape, but `*` weighs four times the square of the length
abbrev pub weight_of : Kernel → List ℕ → ℕ
weight_of Mul (a ∷ b ∷ to ∷ []) = 4 * (to * to)
weight_of kernel lengths = weight_of_shape (shape_of kernel) lengths
