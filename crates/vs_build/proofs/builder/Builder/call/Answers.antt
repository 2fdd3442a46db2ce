use Rattle.std.proofs.Common.{rules, ◌-◌, take, length, refl, ◌∙◌}
use Rattle.vs_flat.specs.declared.expressions.Node.TheVariants as N
use Rattle.vs_build.proofs.Steps.{step_kept}
use Rattle.vs_build.proofs.NodeKinds.{with_enough}
use Rattle.vs_build.proofs.Copies.{slice_rest}
use Rattle.vs_build.proofs.Calls.{call_found, call_added}
use Rattle.vs_build.proofs.Begun.{stays_open}
use Rattle.vs_build.proofs.builder.Builder.call.Goals as goal

pub add_over-requires-clause-covered : goal.add_over-requires-clause-covered
add_over-requires-clause-covered c =
    (call_found c.self.inside.flat c.self.inside.roots.items c.self.inside.bodies.items c.args.self.now c.args.count c.args.function c.requires.there.0 c.args.at c.of.result
    (c.of.ensures ∙ c.in_ok-arguments.ensures ∙ slice_rest c.self.inside.roots.items c.deref.result.now c.len.result c.args.count (search rules) (search rules)) c.self.invariant.0 c.self.view_is c.requires.there.1 c.requires.there.2 c.requires.arguments).covers

pub add_over-requires-clause-enough : goal.add_over-requires-clause-enough
add_over-requires-clause-enough c = with_enough c.args.count c.self.inside.flat c.self.inside.roots.items c.self.inside.bodies.items c.args.self.now c.self.view_is c.requires.arguments

pub invariant_of-self : goal.invariant_of-self
invariant_of-self c = (
  step_kept c.add_over.result c.self.inside.flat c.add_over.new.flat c.self.inside.roots.items c.add_over.new.roots.items c.self.inside.bodies.items (take (length c.self.inside.roots.items - c.args.count) c.self.inside.roots.items) c.of.result
      (N.Call c.args.function c.of.result) c.args.at
      (call_found c.self.inside.flat c.self.inside.roots.items c.self.inside.bodies.items c.args.self.now c.args.count c.args.function c.requires.there.0 c.args.at c.of.result
      (c.of.ensures ∙ c.in_ok-arguments.ensures ∙ slice_rest c.self.inside.roots.items c.deref.result.now c.len.result c.args.count (search rules) (search rules)) c.self.invariant.0 c.self.view_is c.requires.there.1 c.requires.there.2 c.requires.arguments)
      (record { flat = c.add_over.ensures.flat; roots = c.add_over.ensures.roots; room = c.add_over.ensures.room; same_flat = c.add_over.ensures.same_flat; same_roots = c.add_over.ensures.same_roots }),
  c.self.invariant.1 ∙ stays_open c.add_over.result c.self.inside.flat c.add_over.new.flat _ c.add_over.ensures.flat c.add_over.ensures.same_flat refl,
)

pub returns : goal.returns
returns c s f ts m g h l =
    call_added c.add_over.result c.self.inside.flat c.add_over.new.flat c.self.inside.roots.items c.add_over.new.roots.items c.self.inside.bodies.items c.args.self.now c.args.count c.args.function f c.args.at c.of.result s ts m
    (c.of.ensures ∙ c.in_ok-arguments.ensures ∙ slice_rest c.self.inside.roots.items c.deref.result.now c.len.result c.args.count (search rules) (search rules)) c.self.view_is c.requires.arguments
    (call_found c.self.inside.flat c.self.inside.roots.items c.self.inside.bodies.items c.args.self.now c.args.count c.args.function c.requires.there.0 c.args.at c.of.result
    (c.of.ensures ∙ c.in_ok-arguments.ensures ∙ slice_rest c.self.inside.roots.items c.deref.result.now c.len.result c.args.count (search rules) (search rules)) c.self.invariant.0 c.self.view_is c.requires.there.1 c.requires.there.2 c.requires.arguments)
    (record { flat = c.add_over.ensures.flat; roots = c.add_over.ensures.roots; room = c.add_over.ensures.room; same_flat = c.add_over.ensures.same_flat; same_roots = c.add_over.ensures.same_roots }) g h l
