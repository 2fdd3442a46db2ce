use Rattle.std.proofs.Common.{refl}
use Rattle.vs_design.proofs.elaborated_examples.Goals as goal

pub returns : goal.returns
returns c = record {
  no_scope = refl;
  no_top = refl;
  two_tops = refl;
  top_alone = refl;
  nested = refl;
  too_late = refl;
  within_itself = refl;
  greatest_bound = refl;
  bound_beyond = refl;
  ascending_range = refl;
  too_long = refl;
}
