use Rattle.std.proofs.Common.{◌≡◌, List, length}
use Rattle.vs_grammar.specs.Trees as tree
use Rattle.vs_elaborated.specs.Environments.{Env, named, within}
use Rattle.vs_elaborated.specs.Generate.{Made}
use Rattle.vs_elaborated.specs.Instances.{Around}
use Rattle.vs_elaborated.specs.Limits.{the_limits}
use Rattle.vs_elaborated.specs.Surveys.{loops_behind}
use Rattle.vs_scope.specs.Complete.{complete}
use Rattle.vs_scope.specs.Contents.{contents_items}
use Rattle.vs_scope.specs.Frames.{around_env}
use Rattle.vs_items.specs.declared.bodies.SaidItems.{SaidItems}
use Rattle.vs_items.specs.Loops.{SeeTheSame}
use Rattle.vs_items.specs.Modules.{AreOf}
use Rattle.vs_items.specs.Said.{IsSaid, scope_said}
use Rattle.vs_items.specs.Unheard.{scope_unheard}
use Rattle.vs_elab.proofs.SurveyedScopes.{said_for_all, then_for_all}
use Rattle.vs_elab.proofs.surveyed.said_here.Goals as goal

pub returns-clause-said : goal.returns-clause-said
returns-clause-said c =
    let items = contents_items c.args.contents in
    let here = within (around_env c.args.around) (complete (around_env c.args.around) c.args.names.now) in
    said_for_all {P = λ (source : tree.Source) (a : Around) (made : List Made). AreOf c.args.text.now.modules source}
    {Q = λ (source : tree.Source) (a : Around) (made : List Made). SeeTheSame a.env here}
    {R = λ (source : tree.Source) (a : Around) (made : List Made). length made ≡ length items}
    (λ (source : tree.Source) (a : Around) (made : List Made) (s : SaidItems). IsSaid s the_limits.processes c.args.total (scope_said source a c.args.loops.now c.args.contents made) (scope_unheard (named a.env) c.args.contents)) c.said_items.result c.said_items.ensures.said

pub returns-clause-loops : goal.returns-clause-loops
returns-clause-loops c =
    let items = contents_items c.args.contents in
    let here = within (around_env c.args.around) (complete (around_env c.args.around) c.args.names.now) in
    then_for_all (λ (env : Env). SeeTheSame env here) (λ (env : Env). c.said_items.new.loops ≡ loops_behind the_limits env c.args.loops.now items) c.said_items.result c.said_items.ensures.loops
