use Rattle.std.proofs.Common.{rules, ◌-◌, ◌∷◌, [], take, length, refl, ◌∙◌}
use Rattle.vs_flat.specs.declared.expressions.Node.TheVariants as N
use Rattle.vs_build.proofs.Steps.{step_kept}
use Rattle.vs_build.proofs.NodeKinds.{binary_found, binary_adds, with_enough, last_added}
use Rattle.vs_build.proofs.Begun.{stays_open}
use Rattle.vs_build.proofs.builder.Builder.binary.Goals as goal

pub add_over-requires-clause-covered : goal.add_over-requires-clause-covered
add_over-requires-clause-covered c = (binary_found c.self.inside.flat c.self.inside.roots.items c.self.inside.bodies.items c.args.self.now c.args.op c.len-n.result c.index-a.result.now c.index-b.result.now c.args.at c.self.invariant.0 c.self.view_is c.requires (search rules) c.index-a.ensures c.index-b.ensures).covers

pub add_over-requires-clause-enough : goal.add_over-requires-clause-enough
add_over-requires-clause-enough c = with_enough 2 c.self.inside.flat c.self.inside.roots.items c.self.inside.bodies.items c.args.self.now c.self.view_is c.requires

pub invariant_of-self : goal.invariant_of-self
invariant_of-self c = (step_kept c.add_over.result c.self.inside.flat c.add_over.new.flat c.self.inside.roots.items c.add_over.new.roots.items c.self.inside.bodies.items (take (length c.self.inside.roots.items - 2) c.self.inside.roots.items) (c.index-a.result.now ∷ c.index-b.result.now ∷ []) (N.Binary c.args.op c.index-a.result.now c.index-b.result.now) c.args.at (binary_found c.self.inside.flat c.self.inside.roots.items c.self.inside.bodies.items c.args.self.now c.args.op c.len-n.result c.index-a.result.now c.index-b.result.now c.args.at c.self.invariant.0 c.self.view_is c.requires (search rules) c.index-a.ensures c.index-b.ensures) (record { flat = c.add_over.ensures.flat; roots = c.add_over.ensures.roots; room = c.add_over.ensures.room; same_flat = c.add_over.ensures.same_flat; same_roots = c.add_over.ensures.same_roots }), c.self.invariant.1 ∙ stays_open c.add_over.result c.self.inside.flat c.add_over.new.flat _ c.add_over.ensures.flat c.add_over.ensures.same_flat refl)

pub returns : goal.returns
returns c s r t u m n h k = binary_adds c.add_over.result c.self.inside.flat c.add_over.new.flat c.self.inside.roots.items c.add_over.new.roots.items (take (length c.self.inside.roots.items - 2) c.self.inside.roots.items) c.self.inside.bodies.items c.args.op c.index-a.result.now c.index-b.result.now c.args.at s r t u m n (binary_found c.self.inside.flat c.self.inside.roots.items c.self.inside.bodies.items c.args.self.now c.args.op c.len-n.result c.index-a.result.now c.index-b.result.now c.args.at c.self.invariant.0 c.self.view_is c.requires (search rules) c.index-a.ensures c.index-b.ensures) (record { flat = c.add_over.ensures.flat; roots = c.add_over.ensures.roots; room = c.add_over.ensures.room; same_flat = c.add_over.ensures.same_flat; same_roots = c.add_over.ensures.same_roots }) h (last_added c.self.inside.flat c.self.inside.roots.items c.self.inside.bodies.items c.args.self.now r u n c.self.view_is k)
