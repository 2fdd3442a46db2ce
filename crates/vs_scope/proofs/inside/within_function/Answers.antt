use Rattle.std.proofs.Common.{true, None, map, refl, ap, ◌∙◌}
use Rattle.vs_ast.specs.Views as view
use Rattle.vs_const.specs.MentionViews.{kept}
use Rattle.vs_elaborated.specs.Environments.{within}
use Rattle.vs_scope.specs.declared.inside.Inside.{Inside}
use Rattle.vs_scope.specs.Complete.{complete}
use Rattle.vs_scope.specs.Frames.{around_env}
use Rattle.vs_scope.proofs.InsideNames.{names_inside}
use Rattle.vs_scope.proofs.inside.within_function.Goals as goal

pub invariant_of-here : goal.invariant_of-here
invariant_of-here c = record { kept = c.requires.kept }

pub returns-clause-names : goal.returns-clause-names
returns-clause-names c =
    let outer = around_env c.args.around in
    let i : Inside = record { here = record { around = c.args.around; names = c.args.names; inside = None; before = None; in_function = true; kept = c.requires.kept }; locals = c.in_ok-locals.field-0.locals } in
    names_inside i c.args.names.now.scope (within outer (complete outer c.args.names.now)) (view.function c.args.f.now) refl refl (c.in_ok-locals.ensures _ (ap (map kept) c.as_slice.ensures.value ∙ c.in_ok-reads.ensures)).locals

pub returns-clause-locals : goal.returns-clause-locals
returns-clause-locals c = (c.in_ok-locals.ensures _ (ap (map kept) c.as_slice.ensures.value ∙ c.in_ok-reads.ensures)).locals
