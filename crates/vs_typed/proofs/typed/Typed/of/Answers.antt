use Rattle.std.proofs.Common.{◌≤◌, subst, arith}
use Rattle.vs_design.specs.Sizes.{size}
use Rattle.vs_flat.specs.Lawful.{IsLawful}
use Rattle.vs_flat.specs.DesignOf.{design_of}
use Rattle.vs_typed.proofs.FunctionSteps.{have_weights}
use Rattle.vs_typed.proofs.Unrefused.{none_refused}
use Rattle.vs_typed.proofs.typed.Typed.of.Goals as goal

pub invariant_of-result : goal.invariant_of-result
invariant_of-result c =
    let a = c.args.shapes in
    let d = design_of a in
    let lawful = subst IsLawful c.shapes.view_is c.shapes.invariant.lawful in
    let small : size d ≤ 16777216 = omega (arith, c.requires.size, c.if-size-gt16777216.false) in
    record {
      unrefused = none_refused d c.requires.unrefused c.requires.awake small;
      size_is = omega (arith, c.requires.size, small);
      sleeping_is = c.requires.sleeping;
      all_weighed = c.requires.all;
      weights_are = have_weights c.trees_law.ensures.functions a lawful.names.matched c.args.weights.items c.requires.weights;
    }
