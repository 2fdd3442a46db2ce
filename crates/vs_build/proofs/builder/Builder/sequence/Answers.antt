use Rattle.std.proofs.Common.{rules, ◌-◌, [], take, sym, ◌∙◌, refl}
use Rattle.vs_flat.specs.declared.statements.Statement.TheVariants as S
use Rattle.vs_build.proofs.BodySteps.{body_covers, body_kept}
use Rattle.vs_build.proofs.BodyKinds.{slice_from, sequence_enough, sequence_step, sequence_adds, part_count}
use Rattle.vs_build.proofs.Begun.{stays_open}
use Rattle.vs_build.proofs.builder.Builder.sequence.Goals as goal

pub add_body-requires-clause-covered : goal.add_body-requires-clause-covered
add_body-requires-clause-covered c = body_covers c.self.inside.flat c.self.inside.roots.items c.self.inside.bodies.items (take c.len-expressions.result c.self.inside.roots.items) [] (take (c.len.result - c.args.count) c.self.inside.bodies.items) c.of.result (S.Seq c.of.result) c.args.at (sequence_step c.self.inside.flat c.self.inside.roots.items c.self.inside.bodies.items c.args.self.now c.args.count c.len.result c.len-expressions.result c.of.result c.args.at c.self.invariant.0 c.self.view_is c.requires (search rules) (search rules) (c.of.ensures ∙ c.in_ok-parts.ensures ∙ slice_from c.self.inside.bodies.items c.deref.result.now (c.len.result - c.args.count) (search rules)))

pub invariant_of-self : goal.invariant_of-self
invariant_of-self c = (body_kept c.add_body.result c.self.inside.flat c.add_body.new.flat c.self.inside.roots.items c.add_body.new.roots.items (take c.len-expressions.result c.self.inside.roots.items) [] c.self.inside.bodies.items c.add_body.new.bodies.items (take (c.len.result - c.args.count) c.self.inside.bodies.items) c.of.result (S.Seq c.of.result) c.args.at (sequence_step c.self.inside.flat c.self.inside.roots.items c.self.inside.bodies.items c.args.self.now c.args.count c.len.result c.len-expressions.result c.of.result c.args.at c.self.invariant.0 c.self.view_is c.requires (search rules) (search rules) (c.of.ensures ∙ c.in_ok-parts.ensures ∙ slice_from c.self.inside.bodies.items c.deref.result.now (c.len.result - c.args.count) (search rules))) (record { flat = c.add_body.ensures.flat; roots = c.add_body.ensures.roots; parts = c.add_body.ensures.bodies; room = c.add_body.ensures.room; same_flat = c.add_body.ensures.same_flat; same_roots = c.add_body.ensures.same_roots; same_parts = c.add_body.ensures.same_bodies }), c.self.invariant.1 ∙ stays_open c.add_body.result c.self.inside.flat c.add_body.new.flat _ c.add_body.ensures.flat c.add_body.ensures.same_flat refl)

pub returns : goal.returns
returns c s ss m h k = sequence_adds c.add_body.result c.self.inside.flat c.add_body.new.flat c.self.inside.roots.items c.add_body.new.roots.items c.self.inside.bodies.items c.add_body.new.bodies.items (take (c.len.result - c.args.count) c.self.inside.bodies.items) c.args.self.now c.len-expressions.result c.of.result c.args.at s ss m (sequence_step c.self.inside.flat c.self.inside.roots.items c.self.inside.bodies.items c.args.self.now c.args.count c.len.result c.len-expressions.result c.of.result c.args.at c.self.invariant.0 c.self.view_is c.requires (search rules) (search rules) (c.of.ensures ∙ c.in_ok-parts.ensures ∙ slice_from c.self.inside.bodies.items c.deref.result.now (c.len.result - c.args.count) (search rules))) (record { flat = c.add_body.ensures.flat; roots = c.add_body.ensures.roots; parts = c.add_body.ensures.bodies; room = c.add_body.ensures.room; same_flat = c.add_body.ensures.same_flat; same_roots = c.add_body.ensures.same_roots; same_parts = c.add_body.ensures.same_bodies }) c.self.view_is h (k ∙ sym (part_count c.self.inside.bodies.items c.of.result c.len.result c.args.count (search rules) (sequence_enough c.self.inside.flat c.self.inside.roots.items c.self.inside.bodies.items c.args.self.now c.args.count c.self.view_is c.requires) (c.of.ensures ∙ c.in_ok-parts.ensures ∙ slice_from c.self.inside.bodies.items c.deref.result.now (c.len.result - c.args.count) (search rules))))
