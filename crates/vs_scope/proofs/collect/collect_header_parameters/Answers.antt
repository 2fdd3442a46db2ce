use Rattle.std.proofs.Common.{◌++◌, flat_map, map}
use Rattle.vs_ast.specs.Views as view
use Rattle.vs_elaborated.specs.Declarations as spec
use Rattle.vs_scope.specs.Views.{declaration}
use Rattle.vs_scope.proofs.Steps.{flat_more, flat_end}
use Rattle.vs_scope.proofs.collect.collect_header_parameters.Goals as goal

pub loop-p-preserved : goal.loop-p-preserved
loop-p-preserved c =
    flat_more spec.parameters_declared view.parameters c.args.all.now c.loop-p.p-index c.p-item.result (map declaration c.loop-p.list.items) (map declaration c.collect_parameters.new.list.items) (map declaration c.args.list.now.items ++ flat_map spec.parameters_declared (map view.parameters c.args.all.now))
    c.loop-p-test.true c.p-item.is c.in_ok-collect_parameters.ensures c.loop-p.invariant

pub returns : goal.returns
returns c =
    flat_end spec.parameters_declared view.parameters c.args.all.now c.loop-p.p-index (map declaration c.loop-p.list.items) (map declaration c.args.list.now.items ++ flat_map spec.parameters_declared (map view.parameters c.args.all.now)) c.loop-p-test.false c.loop-p.invariant
