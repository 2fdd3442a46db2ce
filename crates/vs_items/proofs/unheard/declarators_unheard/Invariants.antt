use Rattle.std.proofs.Common.{◌≡◌, map, flat_map, take}
use Rattle.vs_grammar.specs.Trees as tree
use Rattle.vs_ast.specs.Views as view
use Rattle.vs_const.specs.Faults.{least}
use Rattle.vs_elaborated.specs.Environments.{named}
use Rattle.vs_elaborated.specs.Unheard.{value_unheard}
use Rattle.vs_scope.specs.Frames.{view_env}
use Rattle.vs_items.proofs.unheard.declarators_unheard.Given as goal

abbrev pub invariant-loop-d : goal.invariant-loop-d
invariant-loop-d l = l.fault ≡ least (flat_map (λ (d : tree.Declarator). value_unheard l.place (named (view_env l.here)) d.value) (map view.declarator (take l.d-index l.names)))
