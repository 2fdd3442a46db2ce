use Rattle.std.proofs.Common.{List, ap, arith}
use Rattle.std.proofs.lemmas.List.{drop_all}
use Rattle.vs_design.specs.Selects.{items_in}
use Rattle.vs_flat.specs.declared.statements.Arm.{Arm}
use Rattle.vs_sets.specs.StatementParts.{arms_of, statement_of}
use Rattle.vs_shape.specs.Nodes.{tree_of}
use Rattle.vs_full.proofs.Forming.{count_step, le_false, le_true}
use Rattle.vs_full.proofs.full.are_few.Goals as goal

pub returns-then-left-count : goal.returns-then-left-count
returns-then-left-count c =
    let a = c.args.shapes.now in
    let step = count_step (tree_of a) (statement_of a) c.args.other c.args.arms.now c.loop-arm.arm-index c.arm-item.result c.loop-arm-test.true c.arm-item.is in
    le_false (items_in (arms_of a c.args.other c.args.arms.now)) 4096 (omega (arith, step, c.len-count.ensures, c.if-left-count.true, c.loop-arm.invariant.count))

pub loop-arm-preserved : goal.loop-arm-preserved
loop-arm-preserved c =
    let a = c.args.shapes.now in
    let step = count_step (tree_of a) (statement_of a) c.args.other c.args.arms.now c.loop-arm.arm-index c.arm-item.result c.loop-arm-test.true c.arm-item.is in
    record {
      count = omega (arith, step, c.len-count.ensures, c.if-left-count.false, c.loop-arm.invariant.count);
      most = omega (arith, c.loop-arm.invariant.most);
    }

pub returns : goal.returns
returns c =
    let a = c.args.shapes.now in
    let none = ap (λ (xs : List Arm). items_in (arms_of a c.args.other xs)) (drop_all c.loop-arm.arm-index c.args.arms.now c.loop-arm-test.false) in
    le_true (items_in (arms_of a c.args.other c.args.arms.now)) 4096 (omega (arith, none, c.loop-arm.invariant.count, c.loop-arm.invariant.most))
