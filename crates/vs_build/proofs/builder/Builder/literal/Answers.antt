use Rattle.std.proofs.Common.{[], refl, ◌∙◌}
use Rattle.vs_design.specs.Expressions as E
use Rattle.vs_flat.specs.declared.expressions.Node.TheVariants as N
use Rattle.vs_build.proofs.Steps.{step_kept}
use Rattle.vs_build.proofs.NodeKinds.{leaf_step, leaf_adds, first_added, formed_in}
use Rattle.vs_build.proofs.Begun.{stays_open}
use Rattle.vs_build.proofs.builder.Builder.literal.Goals as goal

pub invariant_of-self : goal.invariant_of-self
invariant_of-self c = (step_kept c.add_leaf.result c.self.inside.flat c.add_leaf.new.flat c.self.inside.roots.items c.add_leaf.new.roots.items c.self.inside.bodies.items c.self.inside.roots.items [] (N.Literal c.args.bits c.args.signed c.args.sized) c.args.at (leaf_step c.self.inside.flat c.self.inside.roots.items c.self.inside.bodies.items (N.Literal c.args.bits c.args.signed c.args.sized) c.args.at c.self.invariant.0 refl refl refl refl (formed_in c.self.inside.flat c.self.inside.roots.items c.self.inside.bodies.items c.args.self.now (E.Literal c.args.bits c.args.signed c.args.sized) c.self.view_is c.requires)) (record { flat = c.add_leaf.ensures.flat; roots = c.add_leaf.ensures.roots; room = c.add_leaf.ensures.room; same_flat = c.add_leaf.ensures.same_flat; same_roots = c.add_leaf.ensures.same_roots }), c.self.invariant.1 ∙ stays_open c.add_leaf.result c.self.inside.flat c.add_leaf.new.flat _ c.add_leaf.ensures.flat c.add_leaf.ensures.same_flat refl)

pub returns : goal.returns
returns c = first_added c.add_leaf.result c.self.inside.flat c.self.inside.roots.items c.self.inside.bodies.items c.args.self.now _ (E.At c.args.at (E.Literal c.args.bits c.args.signed c.args.sized)) 1 c.self.view_is (leaf_adds c.add_leaf.result c.self.inside.flat c.add_leaf.new.flat c.self.inside.roots.items c.add_leaf.new.roots.items c.self.inside.bodies.items (N.Literal c.args.bits c.args.signed c.args.sized) c.args.at (E.At c.args.at (E.Literal c.args.bits c.args.signed c.args.sized)) (leaf_step c.self.inside.flat c.self.inside.roots.items c.self.inside.bodies.items (N.Literal c.args.bits c.args.signed c.args.sized) c.args.at c.self.invariant.0 refl refl refl refl (formed_in c.self.inside.flat c.self.inside.roots.items c.self.inside.bodies.items c.args.self.now (E.Literal c.args.bits c.args.signed c.args.sized) c.self.view_is c.requires)) (record { flat = c.add_leaf.ensures.flat; roots = c.add_leaf.ensures.roots; room = c.add_leaf.ensures.room; same_flat = c.add_leaf.ensures.same_flat; same_roots = c.add_leaf.ensures.same_roots }) refl refl)
