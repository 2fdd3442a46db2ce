use Rattle.std.proofs.Common.{refl}
use Rattle.vs_design.proofs.value_examples.Goals as goal

pub returns : goal.returns
returns c = record {
  equal_differs = refl;
  equal_unknown = refl;
  identical = refl;
  shift_signed = refl;
  shift_in_unsigned = refl;
  extended_at_leaves = refl;
  complement_wider = refl;
  sum_unknown = refl;
  sum_known = refl;
  product = refl;
  unsized_unknown = refl;
  parameter_unknown = refl;
  signed_extends = refl;
  signed_in_unsigned = refl;
  less_signed = refl;
  less_unsigned = refl;
  shift_keeps_z = refl;
  select_keeps_z = refl;
  choice_keeps_z = refl;
  choice_unknown = refl;
  plus_keeps_z = refl;
  reduction_of_z = refl;
  quotient = refl;
  remainder = refl;
  by_zero = refl;
  power = refl;
  power_modulo = refl;
  odd_reciprocal = refl;
  even_reciprocal = refl;
  unsigned_reciprocal = refl;
  zero_reciprocal = refl;
  large_exponent = refl;
  one_bit_upward = refl;
  one_bit_downward = refl;
  ascending = refl;
  negative_index = refl;
  unknown_index = refl;
  select_out_of_range = refl;
}
