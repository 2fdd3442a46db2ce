use Rattle.std.proofs.Common.{◌≡◌, drop}
use Rattle.vs_ast.specs.Views as view
use Rattle.vs_elaborated.specs.Uses as spec
use Rattle.vs_bodies.proofs.integers.+statements.Given as goal

abbrev pub invariant-uses_in_sequence-loop-s : goal.invariant-uses_in_sequence-loop-s
invariant-uses_in_sequence-loop-s l = spec.uses_sequence l.as_head l.name (view.statements (drop l.s-index l.parts)) ≡ spec.uses_sequence l.as_head l.name (view.statements l.parts)

abbrev pub invariant-uses_in_arms-loop-arm : goal.invariant-uses_in_arms-loop-arm
invariant-uses_in_arms-loop-arm l = spec.uses_arms l.as_head l.name (view.arms (drop l.arm-index l.arms)) ≡ spec.uses_arms l.as_head l.name (view.arms l.arms)
