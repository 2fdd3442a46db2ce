use Rattle.std.proofs.Common.{◌≡◌, OnOk, subst}
use Rattle.vs_build.specs.Drafts.{Draft}
use Rattle.vs_ast.specs.Views as view
use Rattle.vs_build.specs.Growth.{draft}
use Rattle.vs_elaborated.specs.Environments.{within}
use Rattle.vs_scope.specs.Complete.{complete}
use Rattle.vs_scope.specs.Frames.{around_env}
use Rattle.vs_elaborated.specs.Functions.{declared_locals, locals_in}
use Rattle.vs_elab.proofs.Headers.{inputs_there}
use Rattle.vs_elab.proofs.AddedFunctions.{added, executable, formed, has}
use Rattle.vs_elab.proofs.functions.add_function.Goals as goal

pub header-requires : goal.header-requires
header-requires c =
    let outer = around_env c.args.around in
    let env = within outer (complete outer c.args.names.now) in
    let f = view.function c.args.f.now in
    inputs_there (locals_in c.args.names.now.scope env f) c.in_ok-inside.inside.locals (declared_locals f) c.in_ok-inside.ensures.locals

pub function-requires-clause-locals : goal.function-requires-clause-locals
function-requires-clause-locals c =
    has (draft c.args.builder.now) c.args.names.now.scope (within (around_env c.args.around) (complete (around_env c.args.around) c.args.names.now)) (view.function c.args.f.now) c.in_ok-header.header c.in_ok-inside.inside c.in_ok-header.ensures c.in_ok-inside.ensures.locals c.in_ok-inside.ensures.names c.requires.fine

pub function-requires-clause-header : goal.function-requires-clause-header
function-requires-clause-header c =
    formed (draft c.args.builder.now) c.args.names.now.scope (within (around_env c.args.around) (complete (around_env c.args.around) c.args.names.now)) (view.function c.args.f.now) c.in_ok-header.header c.in_ok-inside.inside c.in_ok-header.ensures c.in_ok-inside.ensures.locals c.in_ok-inside.ensures.names c.requires.fine

pub function-requires-clause-fine : goal.function-requires-clause-fine
function-requires-clause-fine c =
    executable (draft c.args.builder.now) c.args.names.now.scope (within (around_env c.args.around) (complete (around_env c.args.around) c.args.names.now)) (view.function c.args.f.now) c.in_ok-header.header c.in_ok-inside.inside c.in_ok-header.ensures c.in_ok-inside.ensures.locals c.in_ok-inside.ensures.names c.requires.fine

pub returns : goal.returns
returns c =
    subst (λ (x : Draft). OnOk c.function.result (draft c.function.new.builder ≡ x))
    (added (draft c.args.builder.now) c.args.names.now.scope (within (around_env c.args.around) (complete (around_env c.args.around) c.args.names.now)) (view.function c.args.f.now) c.in_ok-header.header c.in_ok-inside.inside c.in_ok-header.ensures c.in_ok-inside.ensures.locals c.in_ok-inside.ensures.names c.requires.fine c.requires.idle.outside)
    c.function.ensures
