use Rattle.std.proofs.Common.{refl}
use Rattle.vs_design.proofs.size_examples.Goals as goal

pub returns : goal.returns
returns c = record {
  nothing = refl;
  joined = refl;
  repeated = refl;
  shifted_by_constant = refl;
  bitwise = refl;
  bitwise_wider = refl;
  reductions = refl;
  logical = refl;
  equalities = refl;
  orders = refl;
  sums = refl;
  sum_wider = refl;
  products = refl;
  shifts = refl;
  selects = refl;
  choice = refl;
  operands = refl;
  assignment = refl;
  assigned = refl;
  indexed = refl;
  indexed_part = refl;
  indexed_by_constant = refl;
  joined_target = refl;
  if_apart = refl;
  if_alike = refl;
  cases = refl;
  of_assign = refl;
  of_port = refl;
  of_block = refl;
  of_clocked = refl;
  of_input = refl;
  of_register = refl;
  of_sleeper = refl;
}
