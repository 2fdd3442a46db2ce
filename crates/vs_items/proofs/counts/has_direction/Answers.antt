use Rattle.std.proofs.Common.{◌≡◌, Bool, false, Option, Some, length, ap, ◌∙◌}
use Rattle.vs_ast.specs.Views as view
use Rattle.vs_elaborated.specs.Targets.{as_target}
use Rattle.vs_elaborated.specs.Instances.{directed}
use Rattle.vs_items.proofs.CountedPorts.{output_counted}
use Rattle.vs_items.proofs.counts.has_direction.Goals as goal

pub returns-in-Some-false : goal.returns-in-Some-false
returns-in-Some-false c = λ env.
    let is : c.args.port.input ≡ Some false = cc in
    ap (λ (o : Option Bool). length (directed c.args.port.name.now o (view.expr c.args.e.now) env).connections) is
    ∙ output_counted c.args.port.name.now (view.expr c.args.e.now) env (as_target (view.expr c.args.e.now)) c.is_target.result c.is_target.ensures
