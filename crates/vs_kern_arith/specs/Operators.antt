-- What each kernel computes (IEEE 1364-2005, 5.1.5 and 5.1.7).
use Rattle.std.specs.Prelude.{Bool, List}
use Rattle.vs_four.specs.declared.Bit4.{Bit4}
use Rattle.vs_four.specs.Tables.{not_bit}
use Rattle.vs_four.specs.Logic.{BitList}
use Rattle.vs_four.specs.Numbers.{add, sub, mul, neg, less}
use Rattle.vs_plane.specs.Kernels.{unary, binary, bit_of_two}
use Rattle.vs_kern_arith.specs.declared.costs.Kernel.{Kernel}
use Rattle.vs_kern_arith.specs.declared.costs.Kernel.TheVariants.{Add, Sub, Mul, Neg, Less, LessEqual, Greater, GreaterEqual}

-- `<=`, `>` and `>=`, by `<` (5.1.7)
abbrev pub less_equal : Bool → BitList → BitList → Bit4
less_equal signed a b = not_bit (less signed b a)

abbrev pub greater : Bool → BitList → BitList → Bit4
greater signed a b = less signed b a

abbrev pub greater_equal : Bool → BitList → BitList → Bit4
greater_equal signed a b = not_bit (less signed a b)

-- the operator of each kernel, of the list of its arguments
abbrev pub operator_of : Kernel → List BitList → BitList
operator_of Add = binary add
operator_of Sub = binary sub
operator_of Mul = binary mul
operator_of Neg = unary neg
operator_of (Less signed) = binary (bit_of_two (less signed))
operator_of (LessEqual signed) = binary (bit_of_two (less_equal signed))
operator_of (Greater signed) = binary (bit_of_two (greater signed))
operator_of (GreaterEqual signed) = binary (bit_of_two (greater_equal signed))
