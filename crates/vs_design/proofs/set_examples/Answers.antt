use Rattle.std.proofs.Common.{refl}
use Rattle.vs_design.proofs.set_examples.Goals as goal

pub returns : goal.returns
returns c = record {
  sum_of_constants = refl;
  quotient = refl;
  quotient_by_zero = refl;
  shift_by_one = refl;
  shift_by_unknown = refl;
  select_by_unknown = refl;
  select_inside = refl;
  select_outside = refl;
  select_negative = refl;
  select_maybe_unknown = refl;
  select_surely_unknown = refl;
  same_members = refl;
  disjoint_members = refl;
  other_members = refl;
  and_zero = refl;
  sum_unknown = refl;
  sum_maybe_unknown = refl;
  choice = refl;
  if_both = refl;
  if_other = refl;
  case_ends = refl;
  case_open = refl;
  write_variable = refl;
}
