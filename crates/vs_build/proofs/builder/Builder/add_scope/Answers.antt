use Rattle.std.proofs.Common.{refl, ◌∙◌}
use Rattle.vs_build.proofs.Whole.{scope_either, scope_adds}
use Rattle.vs_build.proofs.Begun.{stays_open}
use Rattle.vs_build.proofs.builder.Builder.add_scope.Goals as goal

pub invariant_of-self : goal.invariant_of-self
invariant_of-self c = (scope_either c.add_scope.result c.self.inside.flat c.add_scope.new.self c.self.inside.roots.items c.self.inside.bodies.items c.args.scope c.self.invariant.0 c.add_scope.ensures.ok c.add_scope.ensures.room c.add_scope.ensures.err, c.self.invariant.1 ∙ stays_open c.add_scope.result c.self.inside.flat c.add_scope.new.self _ c.add_scope.ensures.ok c.add_scope.ensures.err refl)

pub returns-clause-ok : goal.returns-clause-ok
returns-clause-ok c = scope_adds c.add_scope.result c.self.inside.flat c.add_scope.new.self c.self.inside.roots.items c.self.inside.bodies.items c.args.self.now c.args.scope c.self.view_is c.add_scope.ensures.ok
