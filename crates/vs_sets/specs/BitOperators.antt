-- The operators on two bits that are lifted to sets.
use Rattle.vs_four.specs.declared.Bit4.{Bit4}
use Rattle.vs_four.specs.Tables.{and_bit, or_bit, xor_bit, xnor_bit, merge_bit, same_bit, casez_bit, casex_bit}
use Rattle.vs_sets.specs.declared.bits.BitOperator.{BitOperator}
use Rattle.vs_sets.specs.declared.bits.BitOperator.TheVariants.{And, Or, Xor, Xnor, Merge, Same, CaseZ, CaseX}

abbrev pub operator_of : BitOperator → Bit4 → Bit4 → Bit4
operator_of And = and_bit
operator_of Or = or_bit
operator_of Xor = xor_bit
operator_of Xnor = xnor_bit
operator_of Merge = merge_bit
operator_of Same = same_bit
operator_of CaseZ = casez_bit
operator_of CaseX = casex_bit
