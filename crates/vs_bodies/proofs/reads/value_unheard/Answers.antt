use Rattle.vs_ast.specs.Views as view
use Rattle.vs_const.specs.MentionViews.{all_told_of}
use Rattle.vs_const.specs.Mentions.{mentions}
use Rattle.std.proofs.Common.{false, ap, ◌∙◌, ◌++◌}
use Rattle.vs_const.specs.MentionViews.{all_told}
use Rattle.vs_bodies.proofs.reads.value_unheard.Goals as goal

pub returns : goal.returns
returns g c =
    let ms = mentions (view.expr c.args.e.now) (g.E.Env.names c.args.env.now) false in
    c.unheard.ensures ms (ap all_told c.as_slice.ensures.value ∙ c.in_ok-push_mentions.ensures ∙ ap (λ xs. all_told xs ++ all_told_of ms) c.new-list.ensures.items)
