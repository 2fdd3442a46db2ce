use Rattle.std.proofs.Common.{◌≡◌, map, flat_map, take}
use Rattle.vs_grammar.specs.Trees as tree
use Rattle.vs_ast.specs.Views as view
use Rattle.vs_const.specs.Faults.{least}
use Rattle.vs_elaborated.specs.Environments.{named}
use Rattle.vs_scope.specs.Frames.{view_env}
use Rattle.vs_items.specs.Outputs.{found_faults}
use Rattle.vs_items.proofs.outputs.+outputs.Given as goal

abbrev pub invariant-parts_fault-loop-part : goal.invariant-parts_fault-loop-part
invariant-parts_fault-loop-part l = l.fault ≡ least (flat_map (λ (e : tree.Expr). found_faults e (named (view_env l.here))) (map view.expr (take l.part-index l.list)))
