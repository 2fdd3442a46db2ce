use Rattle.std.proofs.Common.{arith, rules, refl}
use Rattle.std.proofs.lemmas.Grind.{common_steps}
use Rattle.vs_design.specs.Footprints.{target_bits}
use Rattle.vs_shape.proofs.TargetParts.{target_part, all_targets}
use Rattle.vs_shape.proofs.shapes.Shapes.+push_target.Goals as goal

pub push_target-requires : goal.push_target-requires
push_target-requires t c = (
  first_of (search rules, grind (arith, common_steps)),
  (
    first_of (search rules, grind (arith, common_steps)),
    target_part c.args.self.now c.flat-flat.result.now c.args.e c.node_of.result.now c.in-Join.parts c.as_slice.result.now c.first_copy-part-items.result.now c.flat-flat.ensures.same c.node_of.ensures.tree c.in-Join.is
        c.first_copy-part-items.ensures.copy c.as_slice.ensures c.requires.target c.loop-part.part-index c.loop-part-test.true,
  ),
)

pub returns-after-loop-part : goal.returns-after-loop-part
returns-after-loop-part t c =
    all_targets c.args.self.now c.flat-flat.result.now c.args.e c.node_of.result.now c.in-Join.parts c.as_slice.result.now c.first_copy-part-items.result.now c.flat-flat.ensures.same c.node_of.ensures.tree c.in-Join.is
    c.first_copy-part-items.ensures.copy c.as_slice.ensures c.requires.target target_bits (λ s u. refl) c.loop-part.part-index c.loop-part.out.items c.args.out.now.items c.loop-part-test.false c.loop-part.invariant
