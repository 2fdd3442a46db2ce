use Rattle.std.proofs.Common.{◌≡◌, drop}
use Rattle.vs_ast.specs.Views as view
use Rattle.vs_elaborated.specs.Uses as spec
use Rattle.vs_scope.proofs.integers.+items.Given as goal

abbrev pub invariant-arms_use-loop-arm : goal.invariant-arms_use-loop-arm
invariant-arms_use-loop-arm l = spec.generate_arms_use l.as_head l.name (view.generate_arms (drop l.arm-index l.arms)) ≡ spec.generate_arms_use l.as_head l.name (view.generate_arms l.arms)

abbrev pub invariant-items_use-loop-item : goal.invariant-items_use-loop-item
invariant-items_use-loop-item l = spec.items_use l.as_head l.name (view.items (drop l.item-index l.items)) ≡ spec.items_use l.as_head l.name (view.items l.items)
