use Rattle.vs_flat.specs.DesignOf.{design_of}
use Rattle.vs_sets.specs.StatementParts.{statement_of}
use Rattle.vs_shape.specs.Nodes.{tree_of}
use Rattle.vs_full.proofs.Forming.{defaulted, formed, many, no_selector, varying}
use Rattle.vs_full.proofs.full.may_be_full.Goals as goal

pub returns-then-not-is_selector : goal.returns-then-not-is_selector
returns-then-not-is_selector c =
    let a = c.args.shapes.now in
    no_selector (design_of a) (tree_of a c.args.of) (tree_of a) (statement_of a) c.args.other c.args.arms.now c.is_selector.result c.is_selector.ensures c.if-not-is_selector.true

pub returns-then-has_default : goal.returns-then-has_default
returns-then-has_default c =
    let a = c.args.shapes.now in
    defaulted (design_of a) (tree_of a c.args.of) (tree_of a) (statement_of a) c.args.other c.args.arms.now c.has_default.result c.has_default.ensures c.if-has_default.true

pub returns-then-not-arms_constant : goal.returns-then-not-arms_constant
returns-then-not-arms_constant c =
    let a = c.args.shapes.now in
    varying (design_of a) (tree_of a c.args.of) (tree_of a) (statement_of a) c.args.other c.args.arms.now c.arms_constant.result c.arms_constant.ensures c.if-not-arms_constant.true

pub returns-then-not-are_few : goal.returns-then-not-are_few
returns-then-not-are_few c =
    let a = c.args.shapes.now in
    many (design_of a) (tree_of a c.args.of) (tree_of a) (statement_of a) c.args.other c.args.arms.now c.are_few.result c.are_few.ensures c.if-not-are_few.true

pub returns : goal.returns
returns c =
    let a = c.args.shapes.now in
    formed (design_of a) (tree_of a c.args.of) (tree_of a) (statement_of a) c.args.other c.args.arms.now c.is_selector.result c.has_default.result c.arms_constant.result c.are_few.result c.in_ok-some.some c.is_selector.ensures c.if-not-is_selector.false c.has_default.ensures
    c.if-has_default.false c.arms_constant.ensures c.if-not-arms_constant.false c.are_few.ensures c.if-not-are_few.false c.in_ok-some.ensures
