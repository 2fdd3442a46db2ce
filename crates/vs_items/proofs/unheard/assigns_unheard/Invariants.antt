use Rattle.std.proofs.Common.{◌≡◌, Some, map, flat_map, take}
use Rattle.vs_grammar.specs.Trees as tree
use Rattle.vs_ast.specs.Views as view
use Rattle.vs_const.specs.Faults.{least}
use Rattle.vs_elaborated.specs.Environments.{named}
use Rattle.vs_elaborated.specs.Unheard.{value_unheard}
use Rattle.vs_scope.specs.Frames.{view_env}
use Rattle.vs_items.proofs.unheard.assigns_unheard.Given as goal

abbrev pub invariant-loop-a : goal.invariant-loop-a
invariant-loop-a l = l.fault ≡ least (flat_map (λ (a : tree.Assign). value_unheard l.place (named (view_env l.here)) (Some a.e)) (map view.assign (take l.a-index l.assigns)))
