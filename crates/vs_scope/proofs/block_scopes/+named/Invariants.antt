use Rattle.std.proofs.Common.{◌≡◌, ◌++◌, map, drop, length}
use Rattle.vs_ast.specs.Views as view
use Rattle.vs_elaborated.specs.NamedBlocks as spec
use Rattle.vs_scope.specs.NamedBlocks.{named}
use Rattle.vs_scope.proofs.block_scopes.+named.Given as goal

abbrev pub invariant-push_sequence-loop-s : goal.invariant-push_sequence-loop-s
invariant-push_sequence-loop-s l = map named l.list.items ++ spec.blocks_in_sequence (view.statements (drop l.s-index l.parts)) l.outer (length l.list.items) ≡ map named l.fn.list.items ++ spec.blocks_in_sequence (view.statements l.parts) l.outer (length l.fn.list.items)

abbrev pub invariant-push_arms-loop-arm : goal.invariant-push_arms-loop-arm
invariant-push_arms-loop-arm l = map named l.list.items ++ spec.blocks_in_arms (view.arms (drop l.arm-index l.arms)) l.outer (length l.list.items) ≡ map named l.fn.list.items ++ spec.blocks_in_arms (view.arms l.arms) l.outer (length l.fn.list.items)
