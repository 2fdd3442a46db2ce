use Rattle.std.proofs.Common.{◌≡◌, ◌++◌, OnOk, List, true, sym, ap, ◌∙◌, subst}
use Rattle.vs_ast.specs.Views as view
use Rattle.vs_ast.specs.declared.expressions.Expr.{Expr}
use Rattle.vs_const.specs.MentionViews.{all_told, all_told_of}
use Rattle.vs_const.specs.Mentions.{called_mentions, mentions, all_mentions}
use Rattle.vs_const.proofs.Sizes.{application_view, concatenation_view, replication_view}
use Rattle.vs_const.proofs.Mentioning.{both_on_ok}
use Rattle.vs_const.proofs.mentions.+mentions.Goals as goal

pub push_mentions-returns-in_ok-push_called-in-Apply : goal.push_mentions-returns-in_ok-push_called-in-Apply
push_mentions-returns-in_ok-push_called-in-Apply g t c =
    let w = c.in-Apply in
    let find = g.E.Env.names c.args.env.now in
    let first = called_mentions (find w.name.text) in
    let second = λ (es : List Expr). all_mentions (view.exprs es) find true in
    subst (λ x. OnOk c.push_all_mentions.result (all_told c.push_all_mentions.new.list.items ≡ all_told c.args.list.now.items ++ all_told_of (mentions x find c.args.in_call)))
    (sym (ap view.expr w.is ∙ application_view w.name w.arguments))
    (both_on_ok c.push_all_mentions.result (all_told c.args.list.now.items) (all_told c.push_called.new.list.items) (all_told c.push_all_mentions.new.list.items) first (second w.arguments.items)
    c.in_ok-push_called-in-Apply.ensures
    (subst (λ es. OnOk c.push_all_mentions.result (all_told c.push_all_mentions.new.list.items ≡ all_told c.push_called.new.list.items ++ all_told_of (second es))) c.deref.ensures.value c.push_all_mentions.ensures))

pub push_mentions-returns-in-Concatenation : goal.push_mentions-returns-in-Concatenation
push_mentions-returns-in-Concatenation g t c =
    let w = c.in-Concatenation in
    let find = g.E.Env.names c.args.env.now in
    let said = c.push_all_mentions-in-Concatenation in
    subst (λ x. OnOk said.result (all_told said.new.list.items ≡ all_told c.args.list.now.items ++ all_told_of (mentions x find c.args.in_call)))
    (sym (ap view.expr w.is ∙ concatenation_view w.place w.parts))
    (subst (λ es. OnOk said.result (all_told said.new.list.items ≡ all_told c.args.list.now.items ++ all_told_of (all_mentions (view.exprs es) find c.args.in_call))) c.deref-in-Concatenation.ensures.value said.ensures)

pub push_mentions-returns-in_ok-push_mentions-in-Replication : goal.push_mentions-returns-in_ok-push_mentions-in-Replication
push_mentions-returns-in_ok-push_mentions-in-Replication g t c =
    let w = c.in-Replication in
    let find = g.E.Env.names c.args.env.now in
    let said = c.push_all_mentions-in-Replication in
    let counted = c.push_mentions-in-Replication in
    let first = mentions (view.expr w.count.value) find c.args.in_call in
    let second = λ (es : List Expr). all_mentions (view.exprs es) find c.args.in_call in
    subst (λ x. OnOk said.result (all_told said.new.list.items ≡ all_told c.args.list.now.items ++ all_told_of (mentions x find c.args.in_call)))
    (sym (ap view.expr w.is ∙ replication_view w.place w.count w.parts))
    (both_on_ok said.result (all_told c.args.list.now.items) (all_told counted.new.list.items) (all_told said.new.list.items) first (second w.parts.items)
    (subst (λ e. all_told counted.new.list.items ≡ all_told c.args.list.now.items ++ all_told_of (mentions (view.expr e) find c.args.in_call)) c.deref-in-Replication.ensures c.in_ok-push_mentions-in-Replication.ensures)
    (subst (λ es. OnOk said.result (all_told said.new.list.items ≡ all_told counted.new.list.items ++ all_told_of (second es))) c.deref-in-Replication-2.ensures.value said.ensures))
