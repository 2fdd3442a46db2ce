-- The value of an operator on the values of its operands (IEEE 1364-2005, 5.1).
use Rattle.std.specs.Prelude.{◌≡◌, ℕ, Bool, true, false, [], ◌∷◌, length, map, Option, unwrap_or}
use Rattle.vs_four.specs.Logic.{BitList, map2, truth, reduce_and, reduce_or, reduce_xor, equal, identical}
use Rattle.vs_four.specs.Tables.{not_bit, and_bit, or_bit, xor_bit, xnor_bit}
use Rattle.vs_four.specs.Numbers.{all_x, add, sub, mul, neg, less, div, rem, pow}
use Rattle.vs_four.specs.Shifts.{shift_left, shift_right, shift_arith}
use Rattle.vs_base.specs.declared.operators.UnaryOp.{UnaryOp}
use Rattle.vs_base.specs.declared.operators.UnaryOp.TheVariants.{Minus, BitNot, LogicalNot, ReduceAnd, ReduceNand, ReduceOr, ReduceNor, ReduceXor, ReduceXnor}
use Rattle.vs_base.specs.declared.operators.BinaryOp.{BinaryOp}
use Rattle.vs_base.specs.declared.operators.BinaryOp.TheVariants.{Add, Subtract, Multiply, Divide, Remainder, BitAnd, BitOr, BitXor, BitXnor, Less, LessEqual, Greater, GreaterEqual, Equal, NotEqual, CaseEqual, CaseNotEqual, LogicalAnd, LogicalOr, ShiftLeft, ShiftRight, ShiftLeftArith, ShiftRightArith, Power}
use Rattle.vs_base.specs.declared.operators.Way.{Way}
use Rattle.vs_base.specs.declared.operators.Way.TheVariants.{Own, Shifted, Raised}
use Rattle.vs_base.specs.Operators.{way}

-- an operator on one operand; unary `+`, `$signed` and `$unsigned` keep its bits, x and z too
abbrev pub apply_unary : UnaryOp → BitList → BitList
apply_unary Minus a = neg a
apply_unary BitNot a = map not_bit a
apply_unary LogicalNot a = not_bit (truth a) ∷ []
apply_unary ReduceAnd a = reduce_and a ∷ []
apply_unary ReduceNand a = not_bit (reduce_and a) ∷ []
apply_unary ReduceOr a = reduce_or a ∷ []
apply_unary ReduceNor a = not_bit (reduce_or a) ∷ []
apply_unary ReduceXor a = reduce_xor a ∷ []
apply_unary ReduceXnor a = not_bit (reduce_xor a) ∷ []
apply_unary _ a = a

-- a quotient, remainder or power that has no value is all x (5.1.5)
abbrev pub or_all_x : ℕ → Option BitList → BitList
or_all_x w r = unwrap_or r (all_x w)

-- an operator on two operands, of which the first and the second are taken as signed or not
abbrev pub apply_binary : BinaryOp → Bool → Bool → BitList → BitList → BitList
apply_binary Add signed other a b = add a b
apply_binary Subtract signed other a b = sub a b
apply_binary Multiply signed other a b = mul a b
apply_binary Divide signed other a b = or_all_x (length a) (div signed a b)
apply_binary Remainder signed other a b = or_all_x (length a) (rem signed a b)
apply_binary BitAnd signed other a b = map2 and_bit a b
apply_binary BitOr signed other a b = map2 or_bit a b
apply_binary BitXor signed other a b = map2 xor_bit a b
apply_binary BitXnor signed other a b = map2 xnor_bit a b
apply_binary Less signed other a b = less signed a b ∷ []
apply_binary LessEqual signed other a b = not_bit (less signed b a) ∷ []
apply_binary Greater signed other a b = less signed b a ∷ []
apply_binary GreaterEqual signed other a b = not_bit (less signed a b) ∷ []
apply_binary Equal signed other a b = equal a b ∷ []
apply_binary NotEqual signed other a b = not_bit (equal a b) ∷ []
apply_binary CaseEqual signed other a b = identical a b ∷ []
apply_binary CaseNotEqual signed other a b = not_bit (identical a b) ∷ []
apply_binary LogicalAnd signed other a b = and_bit (truth a) (truth b) ∷ []
apply_binary LogicalOr signed other a b = or_bit (truth a) (truth b) ∷ []
apply_binary ShiftLeft signed other a b = shift_left a b
apply_binary ShiftLeftArith signed other a b = shift_left a b
apply_binary ShiftRight signed other a b = shift_right a b
apply_binary ShiftRightArith true other a b = shift_arith a b
apply_binary ShiftRightArith false other a b = shift_right a b
apply_binary Power signed other a b = or_all_x (length a) (pow signed other a b)

-- but for a shift, a power and a logical operator two operands have equal lengths
abbrev pub HasLengths : BinaryOp → BitList → BitList → Type 0
HasLengths op a b = of_way (way op)
  where
    of_way : Way → Type 0
    of_way Own = Unit {0}
    of_way Shifted = Unit {0}
    of_way Raised = Unit {0}
    of_way _ = length a ≡ length b
