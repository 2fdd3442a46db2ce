use Rattle.std.proofs.Common.{true, ◌++◌, flat_map, map}
use Rattle.vs_ast.specs.Views as view
use Rattle.vs_elaborated.specs.Declarations as spec
use Rattle.vs_scope.specs.Views.{declaration}
use Rattle.vs_scope.proofs.Steps.{flat_more, flat_end}
use Rattle.vs_scope.proofs.collect.collect_ports.Goals as goal

pub loop-s-preserved : goal.loop-s-preserved
loop-s-preserved c =
    flat_more (spec.signals_declared true) view.signals c.args.all.now c.loop-s.s-index c.s-item.result (map declaration c.loop-s.list.items) (map declaration c.collect_signals.new.list.items) (map declaration c.args.list.now.items ++ flat_map (spec.signals_declared true) (map view.signals c.args.all.now))
    c.loop-s-test.true c.s-item.is c.in_ok-collect_signals.ensures c.loop-s.invariant

pub returns : goal.returns
returns c =
    flat_end (spec.signals_declared true) view.signals c.args.all.now c.loop-s.s-index (map declaration c.loop-s.list.items) (map declaration c.args.list.now.items ++ flat_map (spec.signals_declared true) (map view.signals c.args.all.now)) c.loop-s-test.false c.loop-s.invariant
