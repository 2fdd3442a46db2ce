use Rattle.std.proofs.Common.{◌≡◌, ◌++◌, drop}
use Rattle.vs_ast.specs.Views as view
use Rattle.vs_const.specs.MentionViews.{all_told, all_told_of}
use Rattle.vs_const.specs.Mentions as spec
use Rattle.vs_const.proofs.mentions.+mentions.Given as goal

abbrev pub invariant-push_all_mentions-loop-e : goal.invariant-push_all_mentions-loop-e
invariant-push_all_mentions-loop-e g l =
    all_told l.list.items ++ all_told_of (spec.all_mentions (view.exprs (drop l.e-index l.all)) (g.E.Env.names l.env) l.in_call) ≡ all_told l.fn.list.items ++ all_told_of (spec.all_mentions (view.exprs l.all) (g.E.Env.names l.env) l.in_call)
