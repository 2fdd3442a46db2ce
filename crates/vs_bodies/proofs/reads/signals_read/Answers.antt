use Rattle.std.proofs.Common.{◌++◌, ap, ◌∙◌}
use Rattle.vs_ast.specs.Views as view
use Rattle.vs_const.specs.Meanings.{Barred, Find}
use Rattle.vs_const.specs.MentionViews.{all_told, all_told_of}
use Rattle.vs_const.specs.declared.rules.Rule.TheVariants.{LoopVariable}
use Rattle.vs_elaborated.specs.Reads.{hidden, statement_mentions}
use Rattle.vs_bodies.specs.Mentions.{names_at}
use Rattle.vs_bodies.proofs.reads.signals_read.Goals as goal

pub returns : goal.returns
returns g c = λ vs a.
    let find = g.E.Env.names c.args.env.now in
    let ms = statement_mentions (view.statement c.args.s.now) (hidden vs find) in
    c.distinct.ensures ms
    (ap all_told c.as_slice.ensures.value ∙ c.in_ok-push_statement.ensures ∙ ap (λ xs. all_told xs ++ all_told_of (statement_mentions (view.statement c.args.s.now) (names_at find c.in_block-layers.result))) c.new-list.ensures.items
    ∙ ap (λ (f : Find). all_told_of (statement_mentions (view.statement c.args.s.now) f)) (c.in_block-layers.ensures (λ place. Barred LoopVariable) find vs a))
