use Rattle.std.proofs.Common.{refl, ◌∙◌}
use Rattle.vs_flat.specs.declared.expressions.Node.TheVariants as N
use Rattle.vs_build.proofs.NodeKinds.{local_found, name_found, name_kept, name_adds}
use Rattle.vs_build.proofs.Begun.{stays_open}
use Rattle.vs_build.proofs.builder.Builder.name.Goals as goal

pub add_leaf-requires : goal.add_leaf-requires
add_leaf-requires c = (local_found c.self.inside.flat c.self.inside.roots.items c.self.inside.bodies.items c.args.self.now c.args.signal c.function_count-function.result c.self.inside.in_function c.self.invariant.0 c.self.view_is c.self.invariant.1 c.if-self.true c.function_count-function.ensures c.requires.there).covers

pub add_leaf-requires-else-self : goal.add_leaf-requires-else-self
add_leaf-requires-else-self c = (name_found c.self.inside.flat c.self.inside.roots.items c.self.inside.bodies.items c.args.self.now c.args.signal c.self.inside.in_function c.self.view_is c.self.invariant.1 c.if-self.false c.requires.there).covers

pub invariant_of-self : goal.invariant_of-self
invariant_of-self c = (name_kept c.add_leaf.result c.self.inside.flat c.add_leaf.new.flat c.self.inside.roots.items c.add_leaf.new.roots.items c.self.inside.bodies.items c.args.self.now c.args.signal (N.Local c.function_count-function.result c.args.signal) c.args.at c.self.invariant.0 c.self.view_is (local_found c.self.inside.flat c.self.inside.roots.items c.self.inside.bodies.items c.args.self.now c.args.signal c.function_count-function.result c.self.inside.in_function c.self.invariant.0 c.self.view_is c.self.invariant.1 c.if-self.true c.function_count-function.ensures c.requires.there) c.requires.formed (record { flat = c.add_leaf.ensures.flat; roots = c.add_leaf.ensures.roots; room = c.add_leaf.ensures.room; same_flat = c.add_leaf.ensures.same_flat; same_roots = c.add_leaf.ensures.same_roots }), c.self.invariant.1 ∙ stays_open c.add_leaf.result c.self.inside.flat c.add_leaf.new.flat _ c.add_leaf.ensures.flat c.add_leaf.ensures.same_flat refl)

pub invariant_of-self-else-self : goal.invariant_of-self-else-self
invariant_of-self-else-self c = (name_kept c.add_leaf-else-self.result c.self.inside.flat c.add_leaf-else-self.new.flat c.self.inside.roots.items c.add_leaf-else-self.new.roots.items c.self.inside.bodies.items c.args.self.now c.args.signal (N.Name c.args.signal) c.args.at c.self.invariant.0 c.self.view_is (name_found c.self.inside.flat c.self.inside.roots.items c.self.inside.bodies.items c.args.self.now c.args.signal c.self.inside.in_function c.self.view_is c.self.invariant.1 c.if-self.false c.requires.there) c.requires.formed (record { flat = c.add_leaf-else-self.ensures.flat; roots = c.add_leaf-else-self.ensures.roots; room = c.add_leaf-else-self.ensures.room; same_flat = c.add_leaf-else-self.ensures.same_flat; same_roots = c.add_leaf-else-self.ensures.same_roots }), c.self.invariant.1 ∙ stays_open c.add_leaf-else-self.result c.self.inside.flat c.add_leaf-else-self.new.flat _ c.add_leaf-else-self.ensures.flat c.add_leaf-else-self.ensures.same_flat refl)

pub returns-then-self : goal.returns-then-self
returns-then-self c = name_adds c.add_leaf.result c.self.inside.flat c.add_leaf.new.flat c.self.inside.roots.items c.add_leaf.new.roots.items c.self.inside.bodies.items c.args.self.now c.args.signal (N.Local c.function_count-function.result c.args.signal) c.args.at c.self.invariant.0 c.self.view_is (local_found c.self.inside.flat c.self.inside.roots.items c.self.inside.bodies.items c.args.self.now c.args.signal c.function_count-function.result c.self.inside.in_function c.self.invariant.0 c.self.view_is c.self.invariant.1 c.if-self.true c.function_count-function.ensures c.requires.there) c.requires.formed (record { flat = c.add_leaf.ensures.flat; roots = c.add_leaf.ensures.roots; room = c.add_leaf.ensures.room; same_flat = c.add_leaf.ensures.same_flat; same_roots = c.add_leaf.ensures.same_roots })

pub returns-else-self : goal.returns-else-self
returns-else-self c = name_adds c.add_leaf-else-self.result c.self.inside.flat c.add_leaf-else-self.new.flat c.self.inside.roots.items c.add_leaf-else-self.new.roots.items c.self.inside.bodies.items c.args.self.now c.args.signal (N.Name c.args.signal) c.args.at c.self.invariant.0 c.self.view_is (name_found c.self.inside.flat c.self.inside.roots.items c.self.inside.bodies.items c.args.self.now c.args.signal c.self.inside.in_function c.self.view_is c.self.invariant.1 c.if-self.false c.requires.there) c.requires.formed (record { flat = c.add_leaf-else-self.ensures.flat; roots = c.add_leaf-else-self.ensures.roots; room = c.add_leaf-else-self.ensures.room; same_flat = c.add_leaf-else-self.ensures.same_flat; same_roots = c.add_leaf-else-self.ensures.same_roots })
