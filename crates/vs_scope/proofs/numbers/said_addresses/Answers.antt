use Rattle.std.proofs.Common.{Option, sym, subst}
use Rattle.vs_ast.specs.Views as view
use Rattle.vs_ast.specs.declared.types.Range.{Range}
use Rattle.vs_elaborated.specs.Parameters as spec
use Rattle.vs_scope.specs.Frames.{view_env}
use Rattle.vs_scope.specs.Numbers.{IsSaidRange}
use Rattle.vs_scope.proofs.numbers.said_addresses.Goals as goal

pub returns-in_ok-b-in-Some-clause-is : goal.returns-in_ok-b-in-Some-clause-is
returns-in_ok-b-in-Some-clause-is c =
    subst (λ (o : Option Range). IsSaidRange c.of_addresses.result (spec.said_addresses (view.option view.range o) (view_env c.args.here.now))) (sym c.in-Some.is) (c.of_addresses.ensures.is _ c.in_ok-b-in-Some.ensures.is)
