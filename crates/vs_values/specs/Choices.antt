-- Which kernel computes each operator, and how long its value is.
use Rattle.std.specs.Prelude.{ℕ, Bool, true, false, List, [], ◌∷◌}
use Rattle.vs_design.specs.Expressions.{UnaryOp, Plus, Minus, BitNot, LogicalNot, ReduceAnd, ReduceNand, ReduceOr, ReduceNor, ReduceXor, ReduceXnor, Signed, Unsigned, BinaryOp, Add, Subtract, Multiply, BitAnd, BitOr, BitXor, BitXnor, Less, LessEqual, Greater, GreaterEqual, Equal, NotEqual, CaseEqual, CaseNotEqual, LogicalAnd, LogicalOr, ShiftLeft, ShiftRight, ShiftLeftArith, ShiftRightArith, Way, InContext, Shifted, Raised, way}
use Rattle.vs_design.specs.Values.{left_width, right_width}
use Rattle.vs_kern_logic.specs.declared.costs.Kernel.TheVariants as L
use Rattle.vs_kern_arith.specs.declared.costs.Kernel.TheVariants as A
use Rattle.vs_kern_select.specs.declared.costs.Kernel.TheVariants as S
use Rattle.vs_code.specs.declared.kernels.AnyKernel.{AnyKernel}
use Rattle.vs_code.specs.declared.kernels.AnyKernel.TheVariants.{Logic, Arith, Select}

-- unary `+`, `$signed` and `$unsigned` have none: they keep their operand's slots
abbrev pub unary_kernel : UnaryOp → AnyKernel
unary_kernel Minus = Arith A.Neg
unary_kernel BitNot = Logic L.Not
unary_kernel LogicalNot = Logic L.LogicalNot
unary_kernel ReduceAnd = Logic L.ReduceAnd
unary_kernel ReduceNand = Logic L.ReduceNand
unary_kernel ReduceOr = Logic L.ReduceOr
unary_kernel ReduceNor = Logic L.ReduceNor
unary_kernel ReduceXor = Logic L.ReduceXor
unary_kernel ReduceXnor = Logic L.ReduceXnor
unary_kernel _ = Logic L.Copy

abbrev pub is_kept : UnaryOp → Bool
is_kept Plus = true
is_kept Signed = true
is_kept Unsigned = true
is_kept _ = false

-- division has none: its operands are constants
abbrev pub binary_kernel : BinaryOp → Bool → AnyKernel
binary_kernel Add signed = Arith A.Add
binary_kernel Subtract signed = Arith A.Sub
binary_kernel Multiply signed = Arith A.Mul
binary_kernel BitAnd signed = Logic L.And
binary_kernel BitOr signed = Logic L.Or
binary_kernel BitXor signed = Logic L.Xor
binary_kernel BitXnor signed = Logic L.Xnor
binary_kernel Less signed = Arith (A.Less signed)
binary_kernel LessEqual signed = Arith (A.LessEqual signed)
binary_kernel Greater signed = Arith (A.Greater signed)
binary_kernel GreaterEqual signed = Arith (A.GreaterEqual signed)
binary_kernel Equal signed = Logic L.Equal
binary_kernel NotEqual signed = Logic L.NotEqual
binary_kernel CaseEqual signed = Logic L.CaseEqual
binary_kernel CaseNotEqual signed = Logic L.CaseNotEqual
binary_kernel LogicalAnd signed = Logic L.LogicalAnd
binary_kernel LogicalOr signed = Logic L.LogicalOr
binary_kernel ShiftLeft signed = Select S.ShiftLeft
binary_kernel ShiftLeftArith signed = Select S.ShiftLeft
binary_kernel ShiftRight signed = Select S.ShiftRight
binary_kernel ShiftRightArith true = Select S.ShiftArith
binary_kernel ShiftRightArith false = Select S.ShiftRight
binary_kernel _ signed = Logic L.And

-- a value is as long as its context, or one bit
abbrev pub unary_result : UnaryOp → ℕ → ℕ
unary_result Minus w = w
unary_result BitNot w = w
unary_result _ w = 1

abbrev pub result_of_way : Way → ℕ → ℕ
result_of_way InContext w = w
result_of_way Shifted w = w
result_of_way Raised w = w
result_of_way _ w = 1

-- the lengths that the kernel of two operands of these lengths is called with
abbrev pub binary_lengths : BinaryOp → ℕ → ℕ → ℕ → List ℕ
binary_lengths op w m n = left_width (way op) w m n ∷ right_width (way op) w m n ∷ result_of_way (way op) w ∷ []
