use Rattle.std.proofs.Common.{◌++◌, flat_map, map}
use Rattle.vs_ast.specs.Views as view
use Rattle.vs_elaborated.specs.Declarations as spec
use Rattle.vs_elaborated.specs.Uses.{is_variable_of}
use Rattle.vs_scope.specs.Contents.{contents_items}
use Rattle.vs_scope.specs.Views.{declaration}
use Rattle.vs_scope.proofs.Steps.{flat_more, flat_end}
use Rattle.vs_scope.proofs.collect.collect_items.Goals as goal

pub loop-item-preserved : goal.loop-item-preserved
loop-item-preserved c =
    flat_more (spec.item_declared (is_variable_of (contents_items c.args.contents))) view.item c.args.items.now c.loop-item.item-index c.item-item.result (map declaration c.loop-item.list.items) (map declaration c.collect_item.new.list.items) (map declaration c.args.list.now.items ++ flat_map (spec.item_declared (is_variable_of (contents_items c.args.contents))) (map view.item c.args.items.now))
    c.loop-item-test.true c.item-item.is c.in_ok-collect_item.ensures c.loop-item.invariant

pub returns : goal.returns
returns c =
    flat_end (spec.item_declared (is_variable_of (contents_items c.args.contents))) view.item c.args.items.now c.loop-item.item-index (map declaration c.loop-item.list.items) (map declaration c.args.list.now.items ++ flat_map (spec.item_declared (is_variable_of (contents_items c.args.contents))) (map view.item c.args.items.now)) c.loop-item-test.false c.loop-item.invariant
