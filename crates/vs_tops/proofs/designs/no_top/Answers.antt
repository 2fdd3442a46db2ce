use Rattle.vs_ast.specs.Views as view
use Rattle.vs_tops.proofs.Topless.{repeated_first, topless}
use Rattle.vs_tops.proofs.designs.no_top.Goals as goal

pub returns-in-Some : goal.returns-in-Some
returns-in-Some c = repeated_first (view.source c.args.source.now) c.in_ok-repeated.field-0.repeated c.in-Some.fault c.in_ok-repeated.ensures.repeated c.in-Some.is

pub returns-in-None : goal.returns-in-None
returns-in-None c = topless (view.source c.args.source.now) c.in_ok-repeated.field-0.repeated c.in_ok-repeated.ensures.repeated c.in-None.is
