use Rattle.std.proofs.Common.{◌≡◌, drop}
use Rattle.vs_ast.specs.Views as view
use Rattle.vs_elaborated.specs.Uses as spec
use Rattle.vs_bodies.proofs.integers.+targets.Given as goal

abbrev pub invariant-is_among_targets-loop-part : goal.invariant-is_among_targets-loop-part
invariant-is_among_targets-loop-part l = spec.is_among_targets l.name (view.targets (drop l.part-index l.list)) ≡ spec.is_among_targets l.name (view.targets l.list)
