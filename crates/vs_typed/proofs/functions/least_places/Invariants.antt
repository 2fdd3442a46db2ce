use Rattle.std.proofs.Common.{◌≡◌, length}
use Rattle.vs_typed.specs.Places.{AreLeast}
use Rattle.vs_typed.proofs.functions.least_places.Given as goal

abbrev pub invariant-loop-f : goal.invariant-loop-f
invariant-loop-f l = AreLeast l.shapes l.rule l.table.items × (length l.table.items ≡ l.f)
