use Rattle.std.proofs.Common.{false, ◌+◌, map, take, sym, arith}
use Rattle.vs_grammar.specs.Depths.{deepest, expr_depth}
use Rattle.vs_ast.specs.Views as view
use Rattle.vs_const.specs.Expressions.{typed}
use Rattle.vs_elaborated.specs.Statements.{typed_list}
use Rattle.vs_build.specs.Growth.{draft}
use Rattle.vs_build.proofs.Lists.{parts_none, parts_more, parts_are}
use Rattle.vs_build.proofs.Executed.{each_label, label_levels, labels_taken, labels_all}
use Rattle.vs_build.proofs.statements.labels.Goals as goal

pub operand-requires : goal.operand-requires
operand-requires g c = each_label (draft c.args.builder.now) (draft c.loop-label.builder) (typed_list (map view.expr (take c.loop-label.label-index c.args.list.now)) (g.E.Env.names c.args.env.now)).expressions (1 + deepest expr_depth (map view.expr c.args.list.now)) (g.E.Env.names c.args.env.now) c.args.list.now c.loop-label.label-index c.label-item.result c.loop-label.invariant c.requires (omega arith) c.label-item.is

pub loop-label-init : goal.loop-label-init
loop-label-init g c = parts_none (draft c.args.builder.now) (1 + deepest expr_depth (map view.expr c.args.list.now))

pub loop-label-preserved : goal.loop-label-preserved
loop-label-preserved g c =
    parts_are (draft c.args.builder.now) (draft c.operand.new.builder) _ _ (1 + deepest expr_depth (map view.expr c.args.list.now)) (sym (labels_taken (g.E.Env.names c.args.env.now) c.args.list.now c.loop-label.label-index c.label-item.result (omega arith) c.label-item.is))
    (parts_more (draft c.args.builder.now) (draft c.loop-label.builder) (draft c.operand.new.builder) (typed_list (map view.expr (take c.loop-label.label-index c.args.list.now)) (g.E.Env.names c.args.env.now)).expressions (typed (view.expr c.label-item.result) (g.E.Env.names c.args.env.now) false).expression (1 + deepest expr_depth (map view.expr c.args.list.now)) (1 + expr_depth (view.expr c.label-item.result)) c.loop-label.invariant c.in_ok-operand.ensures
    (omega (arith, label_levels c.args.list.now c.loop-label.label-index c.label-item.result (omega arith) c.label-item.is)))

pub returns : goal.returns
returns g c = parts_are (draft c.args.builder.now) (draft c.loop-label.builder) _ _ (1 + deepest expr_depth (map view.expr c.args.list.now)) (labels_all (g.E.Env.names c.args.env.now) c.args.list.now c.loop-label.label-index (omega arith)) c.loop-label.invariant
