use Rattle.std.proofs.Common.{◌≡◌, ◌++◌, map, drop}
use Rattle.vs_ast.specs.Views as view
use Rattle.vs_elaborated.specs.Functions as spec
use Rattle.vs_scope.specs.Locals.{local}
use Rattle.vs_scope.proofs.locals.+blocks.Given as goal

abbrev pub invariant-push_sequence-loop-s : goal.invariant-push_sequence-loop-s
invariant-push_sequence-loop-s l = map local l.list.items ++ spec.sequence_locals (view.statements (drop l.s-index l.parts)) ≡ map local l.fn.list.items ++ spec.sequence_locals (view.statements l.parts)

abbrev pub invariant-push_arms-loop-arm : goal.invariant-push_arms-loop-arm
invariant-push_arms-loop-arm l = map local l.list.items ++ spec.arms_locals (view.arms (drop l.arm-index l.arms)) ≡ map local l.fn.list.items ++ spec.arms_locals (view.arms l.arms)
