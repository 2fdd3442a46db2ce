use Rattle.std.proofs.Common.{◌<◌, ◌≤◌, ap, ◌∙◌, arith}
use Rattle.std.proofs.lemmas.Bool.Decides.{nat_tests}
use Rattle.vs_design.specs.Expressions.{width}
use Rattle.vs_shape.specs.Nodes.{tree_of}
use Rattle.vs_typed.proofs.FoundSteps.{own_wide, own_narrow}
use Rattle.vs_typed.proofs.least.least_own.Goals as goal

pub returns-then-shape-gt64 : goal.returns-then-shape-gt64
returns-then-shape-gt64 c =
    let e = tree_of c.args.shapes.now c.args.e in
    let capped = ap (λ s. s.width) c.shape.ensures in
    let more : 64 < width e = grind (arith, nat_tests, c.if-shape-gt64.true, capped) in
    c.lesser.ensures ∙ own_wide c.args.rule c.args.best c.args.at e c.in-Wide.is c.requires.target more

pub returns-else-shape-gt64 : goal.returns-else-shape-gt64
returns-else-shape-gt64 c =
    let e = tree_of c.args.shapes.now c.args.e in
    let capped = ap (λ s. s.width) c.shape.ensures in
    let few : width e ≤ 64 = grind (arith, nat_tests, c.if-shape-gt64.false, capped) in
    own_narrow c.args.rule c.args.best c.args.at e c.in-Wide.is c.requires.target few
