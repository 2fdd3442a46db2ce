use Rattle.std.proofs.Common.{rules, arith, ◌-◌, ◌∷◌, [], take, length, refl, ◌∙◌}
use Rattle.vs_flat.specs.declared.expressions.Node.TheVariants as N
use Rattle.vs_build.proofs.Steps.{step_kept}
use Rattle.vs_build.proofs.NodeKinds.{choice_found, choice_adds, with_enough, last_added}
use Rattle.vs_build.proofs.Begun.{stays_open}
use Rattle.vs_build.proofs.builder.Builder.choice.Goals as goal

pub overflow_sub-n : goal.overflow_sub-n
overflow_sub-n c = omega (arith, c.len-n.ensures, with_enough 3 c.self.inside.flat c.self.inside.roots.items c.self.inside.bodies.items c.args.self.now c.self.view_is c.requires)

pub overflow_sub-n-2 : goal.overflow_sub-n-2
overflow_sub-n-2 c = omega (arith, c.len-n.ensures, with_enough 3 c.self.inside.flat c.self.inside.roots.items c.self.inside.bodies.items c.args.self.now c.self.view_is c.requires)

pub overflow_sub-n-3 : goal.overflow_sub-n-3
overflow_sub-n-3 c = omega (arith, c.len-n.ensures, with_enough 3 c.self.inside.flat c.self.inside.roots.items c.self.inside.bodies.items c.args.self.now c.self.view_is c.requires)

pub index-c-requires : goal.index-c-requires
index-c-requires c = omega (arith, c.len-n.ensures, with_enough 3 c.self.inside.flat c.self.inside.roots.items c.self.inside.bodies.items c.args.self.now c.self.view_is c.requires)

pub index-p-requires : goal.index-p-requires
index-p-requires c = omega (arith, c.len-n.ensures, with_enough 3 c.self.inside.flat c.self.inside.roots.items c.self.inside.bodies.items c.args.self.now c.self.view_is c.requires)

pub index-q-requires : goal.index-q-requires
index-q-requires c = omega (arith, c.len-n.ensures, with_enough 3 c.self.inside.flat c.self.inside.roots.items c.self.inside.bodies.items c.args.self.now c.self.view_is c.requires)

pub add_over-requires-clause-covered : goal.add_over-requires-clause-covered
add_over-requires-clause-covered c = (choice_found c.self.inside.flat c.self.inside.roots.items c.self.inside.bodies.items c.args.self.now c.len-n.result c.index-c.result.now c.index-p.result.now c.index-q.result.now c.args.at c.self.invariant.0 c.self.view_is c.requires (search rules) c.index-c.ensures c.index-p.ensures c.index-q.ensures).covers

pub add_over-requires-clause-enough : goal.add_over-requires-clause-enough
add_over-requires-clause-enough c = with_enough 3 c.self.inside.flat c.self.inside.roots.items c.self.inside.bodies.items c.args.self.now c.self.view_is c.requires

pub invariant_of-self : goal.invariant_of-self
invariant_of-self c = (step_kept c.add_over.result c.self.inside.flat c.add_over.new.flat c.self.inside.roots.items c.add_over.new.roots.items c.self.inside.bodies.items (take (length c.self.inside.roots.items - 3) c.self.inside.roots.items) (c.index-c.result.now ∷ c.index-p.result.now ∷ c.index-q.result.now ∷ []) (N.Choice c.index-c.result.now c.index-p.result.now c.index-q.result.now) c.args.at (choice_found c.self.inside.flat c.self.inside.roots.items c.self.inside.bodies.items c.args.self.now c.len-n.result c.index-c.result.now c.index-p.result.now c.index-q.result.now c.args.at c.self.invariant.0 c.self.view_is c.requires (search rules) c.index-c.ensures c.index-p.ensures c.index-q.ensures) (record { flat = c.add_over.ensures.flat; roots = c.add_over.ensures.roots; room = c.add_over.ensures.room; same_flat = c.add_over.ensures.same_flat; same_roots = c.add_over.ensures.same_roots }), c.self.invariant.1 ∙ stays_open c.add_over.result c.self.inside.flat c.add_over.new.flat _ c.add_over.ensures.flat c.add_over.ensures.same_flat refl)

pub returns : goal.returns
returns c s r q t u v m n k h i j = choice_adds c.add_over.result c.self.inside.flat c.add_over.new.flat c.self.inside.roots.items c.add_over.new.roots.items (take (length c.self.inside.roots.items - 3) c.self.inside.roots.items) c.self.inside.bodies.items c.index-c.result.now c.index-p.result.now c.index-q.result.now c.args.at s r q t u v m n k (choice_found c.self.inside.flat c.self.inside.roots.items c.self.inside.bodies.items c.args.self.now c.len-n.result c.index-c.result.now c.index-p.result.now c.index-q.result.now c.args.at c.self.invariant.0 c.self.view_is c.requires (search rules) c.index-c.ensures c.index-p.ensures c.index-q.ensures) (record { flat = c.add_over.ensures.flat; roots = c.add_over.ensures.roots; room = c.add_over.ensures.room; same_flat = c.add_over.ensures.same_flat; same_roots = c.add_over.ensures.same_roots }) h i (last_added c.self.inside.flat c.self.inside.roots.items c.self.inside.bodies.items c.args.self.now q v k c.self.view_is j)
