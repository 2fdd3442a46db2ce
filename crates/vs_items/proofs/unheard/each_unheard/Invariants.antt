use Rattle.std.proofs.Common.{◌≡◌, map, flat_map, take}
use Rattle.vs_grammar.specs.Trees as tree
use Rattle.vs_ast.specs.Views as view
use Rattle.vs_const.specs.Faults.{least}
use Rattle.vs_elaborated.specs.Environments.{named}
use Rattle.vs_elaborated.specs.Unheard.{connections_unheard}
use Rattle.vs_scope.specs.Frames.{view_env}
use Rattle.vs_items.proofs.unheard.each_unheard.Given as goal

abbrev pub invariant-loop-i : goal.invariant-loop-i
invariant-loop-i l = l.fault ≡ least (flat_map (λ (i : tree.Instance). connections_unheard l.place (named (view_env l.here)) i.connections) (map view.instance (take l.i-index l.instances)))
