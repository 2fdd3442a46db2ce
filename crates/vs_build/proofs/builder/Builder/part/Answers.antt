use Rattle.std.proofs.Common.{rules, arith, ◌-◌, ◌∷◌, [], take, length, refl, ◌∙◌}
use Rattle.vs_flat.specs.declared.expressions.Node.TheVariants as N
use Rattle.vs_build.proofs.Steps.{step_kept}
use Rattle.vs_build.proofs.NodeKinds.{select_found, select_enough, select_adds, part_is, last_added}
use Rattle.vs_build.proofs.Begun.{stays_open}
use Rattle.vs_build.proofs.builder.Builder.part.Goals as goal

pub overflow_sub-n : goal.overflow_sub-n
overflow_sub-n c = omega (arith, c.len-n.ensures, select_enough c.self.inside.flat c.self.inside.roots.items c.self.inside.bodies.items c.args.self.now (record { range = c.args.range; up = c.args.up; width = c.args.width }) c.self.view_is c.requires)

pub overflow_sub-n-2 : goal.overflow_sub-n-2
overflow_sub-n-2 c = omega (arith, c.len-n.ensures, select_enough c.self.inside.flat c.self.inside.roots.items c.self.inside.bodies.items c.args.self.now (record { range = c.args.range; up = c.args.up; width = c.args.width }) c.self.view_is c.requires)

pub index-base-requires : goal.index-base-requires
index-base-requires c = omega (arith, c.len-n.ensures, select_enough c.self.inside.flat c.self.inside.roots.items c.self.inside.bodies.items c.args.self.now (record { range = c.args.range; up = c.args.up; width = c.args.width }) c.self.view_is c.requires)

pub index-of-requires : goal.index-of-requires
index-of-requires c = omega (arith, c.len-n.ensures, select_enough c.self.inside.flat c.self.inside.roots.items c.self.inside.bodies.items c.args.self.now (record { range = c.args.range; up = c.args.up; width = c.args.width }) c.self.view_is c.requires)

pub add_over-requires-clause-covered : goal.add_over-requires-clause-covered
add_over-requires-clause-covered c = (select_found c.self.inside.flat c.self.inside.roots.items c.self.inside.bodies.items c.args.self.now (N.Part c.index-of.result.now c.args.range c.index-base.result.now c.args.up c.args.width) (record { range = c.args.range; up = c.args.up; width = c.args.width }) c.len-n.result c.index-base.result.now c.index-of.result.now c.args.at c.self.invariant.0 c.self.view_is c.requires (part_is c.self.inside.flat c.args.range c.args.up c.args.width c.index-base.result.now c.index-of.result.now) (search rules) c.index-base.ensures c.index-of.ensures).covers

pub add_over-requires-clause-enough : goal.add_over-requires-clause-enough
add_over-requires-clause-enough c = select_enough c.self.inside.flat c.self.inside.roots.items c.self.inside.bodies.items c.args.self.now (record { range = c.args.range; up = c.args.up; width = c.args.width }) c.self.view_is c.requires

pub invariant_of-self : goal.invariant_of-self
invariant_of-self c = (step_kept c.add_over.result c.self.inside.flat c.add_over.new.flat c.self.inside.roots.items c.add_over.new.roots.items c.self.inside.bodies.items (take (length c.self.inside.roots.items - 2) c.self.inside.roots.items) (c.index-base.result.now ∷ c.index-of.result.now ∷ []) (N.Part c.index-of.result.now c.args.range c.index-base.result.now c.args.up c.args.width) c.args.at (select_found c.self.inside.flat c.self.inside.roots.items c.self.inside.bodies.items c.args.self.now (N.Part c.index-of.result.now c.args.range c.index-base.result.now c.args.up c.args.width) (record { range = c.args.range; up = c.args.up; width = c.args.width }) c.len-n.result c.index-base.result.now c.index-of.result.now c.args.at c.self.invariant.0 c.self.view_is c.requires (part_is c.self.inside.flat c.args.range c.args.up c.args.width c.index-base.result.now c.index-of.result.now) (search rules) c.index-base.ensures c.index-of.ensures) (record { flat = c.add_over.ensures.flat; roots = c.add_over.ensures.roots; room = c.add_over.ensures.room; same_flat = c.add_over.ensures.same_flat; same_roots = c.add_over.ensures.same_roots }), c.self.invariant.1 ∙ stays_open c.add_over.result c.self.inside.flat c.add_over.new.flat _ c.add_over.ensures.flat c.add_over.ensures.same_flat refl)

pub returns : goal.returns
returns c s r t u m n h k = select_adds c.add_over.result c.self.inside.flat c.add_over.new.flat c.self.inside.roots.items c.add_over.new.roots.items (take (length c.self.inside.roots.items - 2) c.self.inside.roots.items) c.self.inside.bodies.items (N.Part c.index-of.result.now c.args.range c.index-base.result.now c.args.up c.args.width) (record { range = c.args.range; up = c.args.up; width = c.args.width }) c.index-base.result.now c.index-of.result.now c.args.at s r t u m n (part_is c.self.inside.flat c.args.range c.args.up c.args.width c.index-base.result.now c.index-of.result.now) (select_found c.self.inside.flat c.self.inside.roots.items c.self.inside.bodies.items c.args.self.now (N.Part c.index-of.result.now c.args.range c.index-base.result.now c.args.up c.args.width) (record { range = c.args.range; up = c.args.up; width = c.args.width }) c.len-n.result c.index-base.result.now c.index-of.result.now c.args.at c.self.invariant.0 c.self.view_is c.requires (part_is c.self.inside.flat c.args.range c.args.up c.args.width c.index-base.result.now c.index-of.result.now) (search rules) c.index-base.ensures c.index-of.ensures) (record { flat = c.add_over.ensures.flat; roots = c.add_over.ensures.roots; room = c.add_over.ensures.room; same_flat = c.add_over.ensures.same_flat; same_roots = c.add_over.ensures.same_roots }) h (last_added c.self.inside.flat c.self.inside.roots.items c.self.inside.bodies.items c.args.self.now r u n c.self.view_is k)
