use Rattle.std.proofs.Common.{rules, [], take, refl, ◌∙◌}
use Rattle.vs_flat.specs.declared.statements.Statement.TheVariants as S
use Rattle.vs_build.proofs.BodySteps.{body_covers, body_kept}
use Rattle.vs_build.proofs.BodyKinds.{empty_step, empty_adds}
use Rattle.vs_build.proofs.Begun.{stays_open}
use Rattle.vs_build.proofs.builder.Builder.empty.Goals as goal

pub add_body-requires-clause-covered : goal.add_body-requires-clause-covered
add_body-requires-clause-covered c = body_covers c.self.inside.flat c.self.inside.roots.items c.self.inside.bodies.items (take c.len-expressions.result c.self.inside.roots.items) [] (take c.len-statements.result c.self.inside.bodies.items) [] S.Empty c.args.at (empty_step c.self.inside.flat c.self.inside.roots.items c.self.inside.bodies.items c.len-expressions.result c.len-statements.result c.args.at (search rules) (search rules) c.self.invariant.0)

pub invariant_of-self : goal.invariant_of-self
invariant_of-self c = (body_kept c.add_body.result c.self.inside.flat c.add_body.new.flat c.self.inside.roots.items c.add_body.new.roots.items (take c.len-expressions.result c.self.inside.roots.items) [] c.self.inside.bodies.items c.add_body.new.bodies.items (take c.len-statements.result c.self.inside.bodies.items) [] S.Empty c.args.at (empty_step c.self.inside.flat c.self.inside.roots.items c.self.inside.bodies.items c.len-expressions.result c.len-statements.result c.args.at (search rules) (search rules) c.self.invariant.0) (record { flat = c.add_body.ensures.flat; roots = c.add_body.ensures.roots; parts = c.add_body.ensures.bodies; room = c.add_body.ensures.room; same_flat = c.add_body.ensures.same_flat; same_roots = c.add_body.ensures.same_roots; same_parts = c.add_body.ensures.same_bodies }), c.self.invariant.1 ∙ stays_open c.add_body.result c.self.inside.flat c.add_body.new.flat _ c.add_body.ensures.flat c.add_body.ensures.same_flat refl)

pub returns : goal.returns
returns c = empty_adds c.add_body.result c.self.inside.flat c.add_body.new.flat c.self.inside.roots.items c.add_body.new.roots.items c.self.inside.bodies.items c.add_body.new.bodies.items c.args.self.now c.len-expressions.result c.len-statements.result c.args.at (search rules) (search rules) c.self.view_is (empty_step c.self.inside.flat c.self.inside.roots.items c.self.inside.bodies.items c.len-expressions.result c.len-statements.result c.args.at (search rules) (search rules) c.self.invariant.0) (record { flat = c.add_body.ensures.flat; roots = c.add_body.ensures.roots; parts = c.add_body.ensures.bodies; room = c.add_body.ensures.room; same_flat = c.add_body.ensures.same_flat; same_roots = c.add_body.ensures.same_roots; same_parts = c.add_body.ensures.same_bodies })
