use Rattle.std.proofs.Common.{◌≡◌, drop, map}
use Rattle.vs_ast.specs.Views as view
use Rattle.vs_elaborated.specs.Uses as spec
use Rattle.vs_bodies.proofs.integers.is_among_names.Given as goal

abbrev pub invariant-loop-n : goal.invariant-loop-n
invariant-loop-n l = spec.is_among_names l.name (map view.name (drop l.n-index l.names)) ≡ spec.is_among_names l.name (map view.name l.names)
