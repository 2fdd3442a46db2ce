use Rattle.std.proofs.Common.{refl}
use Rattle.vs_net.specs.Network.{write_all, is_written}
use Rattle.vs_design.proofs.body_examples.Goals as goal

pub returns : goal.returns
unfolding write_all is_written
returns c = record {
  casez = refl;
  casex = refl;
  case_exact = refl;
  case_signed = refl;
  case_unsigned = refl;
  if_unknown = refl;
  shared = refl;
  write_over_the_end = refl;
  write_below = refl;
  write_unknown = refl;
  in_order = refl;
  fixed_now = refl;
  target_unknown = refl;
  star_out_of_range = refl;
  reads_out_of_range = refl;
  star_index = refl;
  reads_constant = refl;
  reads_variable = refl;
  latch_variable = refl;
  latch_branch = refl;
  latch_read = refl;
  latch_none = refl;
}
