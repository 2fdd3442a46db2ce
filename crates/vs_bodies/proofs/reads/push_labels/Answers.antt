use Rattle.std.proofs.Common.{false, take, ◌+◌, refl}
use Rattle.vs_ast.specs.declared.expressions.Expr.{Expr}
use Rattle.vs_ast.specs.Views as view
use Rattle.vs_const.proofs.Mentioning.{both_told, none_told}
use Rattle.vs_const.specs.MentionViews.{all_told}
use Rattle.vs_const.specs.Mentions.{mentions}
use Rattle.vs_bodies.proofs.MentionedParts.{all_parts, labels_of, part_more}
use Rattle.vs_bodies.proofs.reads.push_labels.Goals as goal

pub loop-label-init : goal.loop-label-init
loop-label-init g c = none_told (all_told c.args.list.now.items)

pub loop-label-preserved : goal.loop-label-preserved
loop-label-preserved g c =
    let find = g.E.Env.names c.args.env.now in
    let xs = c.args.labels.now in
    let i = c.loop-label.label-index in
    both_told (all_told c.args.list.now.items) (all_told c.loop-label.list.items) (all_told c.push_mentions.new.list.items) (labels_of find (take i xs)) (mentions (view.expr c.label-item.result) find false) (labels_of find (take (i + 1) xs))
    c.loop-label.invariant c.in_ok-push_mentions.ensures
    (part_more (labels_of find) (λ (e : Expr). mentions (view.expr e) find false) refl (λ x ys. refl) xs i c.label-item.result c.loop-label-test.true c.label-item.is)

pub returns : goal.returns
returns g c =
    all_parts (labels_of (g.E.Env.names c.args.env.now)) c.args.labels.now c.loop-label.label-index (all_told c.args.list.now.items) (all_told c.loop-label.list.items) c.loop-label-test.false c.loop-label.invariant
