use Rattle.std.proofs.Common.{◌≡◌}
use Rattle.vs_shape.proofs.shapes.Shapes.note.Given as goal

abbrev pub invariant-loop : goal.invariant-loop
invariant-loop l = l.self ≡ l.initial.self
