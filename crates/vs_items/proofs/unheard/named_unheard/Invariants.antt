use Rattle.std.proofs.Common.{◌≡◌, map, flat_map, take}
use Rattle.vs_grammar.specs.Trees as tree
use Rattle.vs_ast.specs.Views as view
use Rattle.vs_const.specs.Faults.{least}
use Rattle.vs_elaborated.specs.Environments.{named}
use Rattle.vs_elaborated.specs.Unheard.{value_unheard}
use Rattle.vs_scope.specs.Frames.{view_env}
use Rattle.vs_items.proofs.unheard.named_unheard.Given as goal

abbrev pub invariant-loop-part : goal.invariant-loop-part
invariant-loop-part l = l.fault ≡ least (flat_map (λ (c : tree.NamedConnection). value_unheard l.place (named (view_env l.here)) c.e) (map view.named_connection (take l.part-index l.parts)))
