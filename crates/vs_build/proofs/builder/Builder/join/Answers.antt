use Rattle.std.proofs.Common.{rules, ◌-◌, take, drop, length, ap, ◌∙◌, refl}
use Rattle.vs_four.specs.Lengths.{repeat}
use Rattle.vs_flat.specs.declared.expressions.Node.TheVariants as N
use Rattle.vs_build.proofs.Steps.{step_kept}
use Rattle.vs_build.proofs.NodeKinds.{with_enough}
use Rattle.vs_build.proofs.Copies.{join_parts, join_part_adds, slice_rest}
use Rattle.vs_build.proofs.Begun.{stays_open}
use Rattle.vs_build.proofs.builder.Builder.join.Goals as goal

pub add_over-requires-clause-covered : goal.add_over-requires-clause-covered
add_over-requires-clause-covered c = (join_parts c.self.inside.flat c.self.inside.roots.items c.self.inside.bodies.items c.args.self.now c.args.count c.args.copies c.args.at c.of.result (c.of.ensures ∙ c.in_ok-parts.ensures ∙ ap (repeat c.args.copies) (slice_rest c.self.inside.roots.items c.deref.result.now c.len.result c.args.count (search rules) (search rules))) c.self.invariant.0 c.self.view_is c.requires.parts c.requires.some c.requires.copied c.requires.most).covers

pub add_over-requires-clause-enough : goal.add_over-requires-clause-enough
add_over-requires-clause-enough c = with_enough c.args.count c.self.inside.flat c.self.inside.roots.items c.self.inside.bodies.items c.args.self.now c.self.view_is c.requires.parts

pub invariant_of-self : goal.invariant_of-self
invariant_of-self c = (step_kept c.add_over.result c.self.inside.flat c.add_over.new.flat c.self.inside.roots.items c.add_over.new.roots.items c.self.inside.bodies.items (take (length c.self.inside.roots.items - c.args.count) c.self.inside.roots.items) (drop (length c.self.inside.roots.items - c.args.count) c.self.inside.roots.items) (N.Join c.of.result) c.args.at (join_parts c.self.inside.flat c.self.inside.roots.items c.self.inside.bodies.items c.args.self.now c.args.count c.args.copies c.args.at c.of.result (c.of.ensures ∙ c.in_ok-parts.ensures ∙ ap (repeat c.args.copies) (slice_rest c.self.inside.roots.items c.deref.result.now c.len.result c.args.count (search rules) (search rules))) c.self.invariant.0 c.self.view_is c.requires.parts c.requires.some c.requires.copied c.requires.most) (record { flat = c.add_over.ensures.flat; roots = c.add_over.ensures.roots; room = c.add_over.ensures.room; same_flat = c.add_over.ensures.same_flat; same_roots = c.add_over.ensures.same_roots }), c.self.invariant.1 ∙ stays_open c.add_over.result c.self.inside.flat c.add_over.new.flat _ c.add_over.ensures.flat c.add_over.ensures.same_flat refl)

pub returns : goal.returns
returns c s ts m h l = join_part_adds c.add_over.result c.self.inside.flat c.add_over.new.flat c.self.inside.roots.items c.add_over.new.roots.items c.self.inside.bodies.items c.args.self.now c.args.count c.args.copies c.args.at c.of.result (c.of.ensures ∙ c.in_ok-parts.ensures ∙ ap (repeat c.args.copies) (slice_rest c.self.inside.roots.items c.deref.result.now c.len.result c.args.count (search rules) (search rules))) s ts m c.self.view_is c.requires.parts (join_parts c.self.inside.flat c.self.inside.roots.items c.self.inside.bodies.items c.args.self.now c.args.count c.args.copies c.args.at c.of.result (c.of.ensures ∙ c.in_ok-parts.ensures ∙ ap (repeat c.args.copies) (slice_rest c.self.inside.roots.items c.deref.result.now c.len.result c.args.count (search rules) (search rules))) c.self.invariant.0 c.self.view_is c.requires.parts c.requires.some c.requires.copied c.requires.most) (record { flat = c.add_over.ensures.flat; roots = c.add_over.ensures.roots; room = c.add_over.ensures.room; same_flat = c.add_over.ensures.same_flat; same_roots = c.add_over.ensures.same_roots }) c.requires.some c.requires.copied h l
