use Rattle.std.proofs.Common.{◌≡◌, ap, sym, ◌∙◌, arith}
use Rattle.vs_grammar.specs.Shapes.{IsExpr}
use Rattle.vs_ast.specs.Views as view
use Rattle.vs_bodies.specs.declared.told.Told.{Told}
use Rattle.vs_bodies.proofs.Parts.{none_so_far, one_more, none_more, each_at}
use Rattle.vs_bodies.proofs.Telling.{label_told, labels_told}
use Rattle.vs_bodies.proofs.values.labels_told.Goals as goal

pub value_told-requires-clause-shaped : goal.value_told-requires-clause-shaped
value_told-requires-clause-shaped g c = each_at IsExpr view.expr c.args.labels.now c.loop-label.label-index c.label-item.result c.loop-label-test.true c.label-item.is c.requires.shaped

pub loop-label-init : goal.loop-label-init
loop-label-init g c = none_so_far (label_told (g.E.Env.names c.args.env.now)) c.args.labels.now 0 c.broken-told.result c.broken-told.ensures

pub loop-label-preserved : goal.loop-label-preserved
loop-label-preserved g c =
    let n : c.in_ok-one.one.count ≡ 0 = ap (λ (t : Told). t.count) c.in_ok-one.ensures in
    one_more (label_told (g.E.Env.names c.args.env.now)) c.args.labels.now c.loop-label.label-index 0 c.label-item.result c.loop-label.told c.in_ok-one.one c.with-told.result
    c.loop-label-test.true c.label-item.is c.in_ok-one.ensures (omega (arith, n)) c.with-told.ensures c.loop-label.invariant

pub returns : goal.returns
returns g c =
    none_more (label_told (g.E.Env.names c.args.env.now)) c.args.labels.now c.loop-label.label-index 0 c.loop-label.told c.loop-label-test.false c.loop-label.invariant
    ∙ sym (labels_told (g.E.Env.names c.args.env.now) c.args.labels.now)
