use Rattle.std.proofs.Common.{◌≡◌, map, flat_map, take}
use Rattle.vs_ast.specs.Views as view
use Rattle.vs_const.specs.Faults.{least}
use Rattle.vs_elaborated.specs.Environments.{named}
use Rattle.vs_elaborated.specs.Unheard.{item_unheard}
use Rattle.vs_scope.specs.Frames.{view_env}
use Rattle.vs_items.proofs.unheard.items_unheard.Given as goal

abbrev pub invariant-loop-item : goal.invariant-loop-item
invariant-loop-item l = l.fault ≡ least (flat_map (item_unheard (named (view_env l.here))) (map view.item (take l.item-index l.items)))
