use Rattle.std.proofs.Common.{◌≡◌, ◌+◌, max, ap, ap₂, ◌∙◌, arith}
use Rattle.vs_design.specs.Expressions.{width}
use Rattle.vs_design.specs.Statements.{target_width}
use Rattle.vs_design.specs.Sizes.{weight, target_weight}
use Rattle.vs_flat.specs.Trees.{target_tree}
use Rattle.vs_shape.specs.Nodes.{tree_of}
use Rattle.vs_sets.proofs.TargetFacts.{target_few, target_length}
use Rattle.vs_typed.specs.Weights.{capped}
use Rattle.vs_typed.proofs.targets.add_assignment.Goals as goal

pub returns : goal.returns
returns c =
    let a = c.args.shapes.now in
    let t = tree_of a c.args.target in
    let e = tree_of a c.args.e in
    let few = target_few t c.requires.target in
    let same = target_length t c.requires.target in
    let bits : c.from-bits.result ≡ target_width (target_tree t) = omega (arith, few.1, c.from-bits.ensures, ap (λ s. s.width) c.shape.ensures, same) in
    let context : c.max.result ≡ max (width e) (target_width (target_tree t)) = c.max.ensures ∙ ap₂ max c.as_operand.ensures.width bits in
    let first : c.plus.result ≡ capped (c.args.total + c.from-bits.result) = c.plus.ensures in
    let second : c.add_target-sum.result ≡ capped (c.plus.result + target_weight (target_tree t)) = c.add_target-sum.ensures in
    let third : weight e c.max.result ≡ weight e (max (width e) (target_width (target_tree t))) = ap (weight e) context in
    omega (arith, c.add_weight.ensures, bits, first, second, third)
