use Rattle.std.proofs.Common.{refl}
use Rattle.vs_scope.proofs.inside.passed_shape.Goals as goal

pub returns : goal.returns
returns c = record { number = refl; range = refl; signed = refl; role = refl; known = refl; words = refl; net = refl; input = refl }
