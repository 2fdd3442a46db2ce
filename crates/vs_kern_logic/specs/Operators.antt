-- What each kernel computes (IEEE 1364-2005, 5.1.8 to 5.1.11 and 9.5).
use Rattle.std.specs.Prelude.{List, map}
use Rattle.vs_four.specs.declared.Bit4.{Bit4}
use Rattle.vs_four.specs.Tables.{not_bit, and_bit, or_bit, xor_bit, xnor_bit}
use Rattle.vs_four.specs.Logic.{BitList, map2, reduce_and, reduce_or, reduce_xor, truth, equal, identical, matches_z, matches_x}
use Rattle.vs_plane.specs.Kernels.{unary, binary, bit_of_one, bit_of_two}
use Rattle.vs_kern_logic.specs.declared.costs.Kernel.{Kernel}
use Rattle.vs_kern_logic.specs.declared.costs.Kernel.TheVariants.{Copy, Not, And, Or, Xor, Xnor, ReduceAnd, ReduceNand, ReduceOr, ReduceNor, ReduceXor, ReduceXnor, LogicalNot, LogicalAnd, LogicalOr, Equal, NotEqual, CaseEqual, CaseNotEqual, MatchesZ, MatchesX}

-- `~&`, `~|` and `~^` (5.1.11)
abbrev pub reduce_nand : BitList → Bit4
reduce_nand a = not_bit (reduce_and a)

abbrev pub reduce_nor : BitList → Bit4
reduce_nor a = not_bit (reduce_or a)

abbrev pub reduce_xnor : BitList → Bit4
reduce_xnor a = not_bit (reduce_xor a)

-- `!`, `&&` and `||`, by the truths of the operands (5.1.9)
abbrev pub logical_not : BitList → Bit4
logical_not a = not_bit (truth a)

abbrev pub logical_and : BitList → BitList → Bit4
logical_and a b = and_bit (truth a) (truth b)

abbrev pub logical_or : BitList → BitList → Bit4
logical_or a b = or_bit (truth a) (truth b)

-- `!=` and `!==` (5.1.8)
abbrev pub not_equal : BitList → BitList → Bit4
not_equal a b = not_bit (equal a b)

abbrev pub not_identical : BitList → BitList → Bit4
not_identical a b = not_bit (identical a b)

-- the operator of each kernel, of the list of its arguments
abbrev pub operator_of : Kernel → List BitList → BitList
operator_of Copy = unary (λ a. a)
operator_of Not = unary (map not_bit)
operator_of And = binary (map2 and_bit)
operator_of Or = binary (map2 or_bit)
operator_of Xor = binary (map2 xor_bit)
operator_of Xnor = binary (map2 xnor_bit)
operator_of ReduceAnd = unary (bit_of_one reduce_and)
operator_of ReduceNand = unary (bit_of_one reduce_nand)
operator_of ReduceOr = unary (bit_of_one reduce_or)
operator_of ReduceNor = unary (bit_of_one reduce_nor)
operator_of ReduceXor = unary (bit_of_one reduce_xor)
operator_of ReduceXnor = unary (bit_of_one reduce_xnor)
operator_of LogicalNot = unary (bit_of_one logical_not)
operator_of LogicalAnd = binary (bit_of_two logical_and)
operator_of LogicalOr = binary (bit_of_two logical_or)
operator_of Equal = binary (bit_of_two equal)
operator_of NotEqual = binary (bit_of_two not_equal)
operator_of CaseEqual = binary (bit_of_two identical)
operator_of CaseNotEqual = binary (bit_of_two not_identical)
operator_of MatchesZ = binary (bit_of_two matches_z)
operator_of MatchesX = binary (bit_of_two matches_x)
