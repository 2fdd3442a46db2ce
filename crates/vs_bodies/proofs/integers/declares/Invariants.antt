use Rattle.std.proofs.Common.{◌≡◌, drop, map}
use Rattle.vs_ast.specs.Views as view
use Rattle.vs_elaborated.specs.Uses as spec
use Rattle.vs_bodies.proofs.integers.declares.Given as goal

abbrev pub invariant-loop-v : goal.invariant-loop-v
invariant-loop-v l = spec.declares l.name (map view.variables (drop l.v-index l.all)) ≡ spec.declares l.name (map view.variables l.all)
