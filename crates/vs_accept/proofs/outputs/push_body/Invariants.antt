use Rattle.std.proofs.Common.{◌≡◌, ◌++◌, map, flat_map, take}
use Rattle.vs_ast.specs.Views as view
use Rattle.vs_accept.specs.Outputs.{item_outputs}
use Rattle.vs_accept.proofs.outputs.push_body.Given as goal

abbrev pub invariant-loop-item : goal.invariant-loop-item
invariant-loop-item l = l.names.items ≡ l.fn.names.items ++ flat_map item_outputs (map view.item (take l.item-index l.items))
