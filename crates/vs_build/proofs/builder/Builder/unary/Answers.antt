use Rattle.std.proofs.Common.{rules, ◌-◌, ◌∷◌, [], take, length, refl, ◌∙◌}
use Rattle.vs_flat.specs.declared.expressions.Node.TheVariants as N
use Rattle.vs_build.proofs.Steps.{step_kept}
use Rattle.vs_build.proofs.NodeKinds.{unary_found, unary_adds, with_enough, last_added}
use Rattle.vs_build.proofs.Begun.{stays_open}
use Rattle.vs_build.proofs.builder.Builder.unary.Goals as goal

pub add_over-requires-clause-covered : goal.add_over-requires-clause-covered
add_over-requires-clause-covered c = (unary_found c.self.inside.flat c.self.inside.roots.items c.self.inside.bodies.items c.args.self.now c.args.op c.len-n.result c.index-a.result.now c.args.at c.self.invariant.0 c.self.view_is c.requires (search rules) c.index-a.ensures).covers

pub add_over-requires-clause-enough : goal.add_over-requires-clause-enough
add_over-requires-clause-enough c = with_enough 1 c.self.inside.flat c.self.inside.roots.items c.self.inside.bodies.items c.args.self.now c.self.view_is c.requires

pub invariant_of-self : goal.invariant_of-self
invariant_of-self c = (step_kept c.add_over.result c.self.inside.flat c.add_over.new.flat c.self.inside.roots.items c.add_over.new.roots.items c.self.inside.bodies.items (take (length c.self.inside.roots.items - 1) c.self.inside.roots.items) (c.index-a.result.now ∷ []) (N.Unary c.args.op c.index-a.result.now) c.args.at (unary_found c.self.inside.flat c.self.inside.roots.items c.self.inside.bodies.items c.args.self.now c.args.op c.len-n.result c.index-a.result.now c.args.at c.self.invariant.0 c.self.view_is c.requires (search rules) c.index-a.ensures) (record { flat = c.add_over.ensures.flat; roots = c.add_over.ensures.roots; room = c.add_over.ensures.room; same_flat = c.add_over.ensures.same_flat; same_roots = c.add_over.ensures.same_roots }), c.self.invariant.1 ∙ stays_open c.add_over.result c.self.inside.flat c.add_over.new.flat _ c.add_over.ensures.flat c.add_over.ensures.same_flat refl)

pub returns : goal.returns
returns c s t m h = unary_adds c.add_over.result c.self.inside.flat c.add_over.new.flat c.self.inside.roots.items c.add_over.new.roots.items (take (length c.self.inside.roots.items - 1) c.self.inside.roots.items) c.self.inside.bodies.items c.args.op c.index-a.result.now c.args.at s t m (unary_found c.self.inside.flat c.self.inside.roots.items c.self.inside.bodies.items c.args.self.now c.args.op c.len-n.result c.index-a.result.now c.args.at c.self.invariant.0 c.self.view_is c.requires (search rules) c.index-a.ensures) (record { flat = c.add_over.ensures.flat; roots = c.add_over.ensures.roots; room = c.add_over.ensures.room; same_flat = c.add_over.ensures.same_flat; same_roots = c.add_over.ensures.same_roots }) (last_added c.self.inside.flat c.self.inside.roots.items c.self.inside.bodies.items c.args.self.now s t m c.self.view_is h)
