use Rattle.std.proofs.Common.{List, [], ◌++◌, map, ap, ◌∙◌}
use Rattle.vs_ast.specs.Views as view
use Rattle.vs_elaborated.specs.Heads.{headed}
use Rattle.vs_scope.specs.Frames.{view_env}
use Rattle.vs_items.specs.declared.loops.Head.{Head}
use Rattle.vs_items.specs.Loops.{head}
use Rattle.vs_items.proofs.HeadSteps.{none_around}
use Rattle.vs_items.proofs.heads.heads_of.Goals as goal

pub returns : goal.returns
returns c =
    c.in_ok-push_heads.ensures [] none_around ∙ ap (λ (xs : List Head). map head xs ++ headed (view.statement c.args.s.now) [] (view_env c.args.here.now)) c.new-list.ensures.items
