use Rattle.std.proofs.Common.{◌≡◌, ◌++◌, map, flat_map, drop}
use Rattle.vs_ast.specs.Views as view
use Rattle.vs_elaborated.specs.Declarations as spec
use Rattle.vs_elaborated.specs.Uses.{is_variable_of}
use Rattle.vs_scope.specs.Contents.{contents_items}
use Rattle.vs_scope.specs.Views.{declaration}
use Rattle.vs_scope.proofs.collect.collect_items.Given as goal

abbrev pub invariant-loop-item : goal.invariant-loop-item
invariant-loop-item l = map declaration l.list.items ++ flat_map (spec.item_declared (is_variable_of (contents_items l.contents))) (map view.item (drop l.item-index l.items)) ≡ map declaration l.fn.list.items ++ flat_map (spec.item_declared (is_variable_of (contents_items l.contents))) (map view.item l.items)
