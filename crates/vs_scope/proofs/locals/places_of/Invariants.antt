use Rattle.std.proofs.Common.{map, take}
use Rattle.vs_bodies.specs.Layers.{AreLocals}
use Rattle.vs_scope.specs.Locals.{local}
use Rattle.vs_scope.proofs.locals.places_of.Given as goal

abbrev pub invariant-loop-v : goal.invariant-loop-v
invariant-loop-v l = AreLocals l.places (map local (take l.v-index l.all))
