use Rattle.std.proofs.Common.{refl, ap, ◌∙◌}
use Rattle.vs_const.specs.Faults.{better}
use Rattle.vs_scope.proofs.functions.function_of.Goals as goal

pub returns : goal.returns
returns c = record {
  number_is = refl;
  inputs = c.in_ok-inputs.ensures;
  passed = c.in_ok-passed.ensures;
  range = refl;
  signed = refl;
  known = c.is_known.ensures;
  depth = c.in_ok-depth.ensures;
  fault = c.first_of-fault.ensures ∙ ap (better c.args.header.fault) (c.first_of.ensures ∙ ap (better c.args.said.fault) c.size_fault-size.ensures);
  copies = refl;
}
