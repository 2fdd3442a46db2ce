use Rattle.std.proofs.Common.{ℕ, subst}
use Rattle.vs_ast.specs.Views as view
use Rattle.vs_elaborated.specs.Environments.{within}
use Rattle.vs_elaborated.specs.Functions.{said_function}
use Rattle.vs_scope.specs.Complete.{complete}
use Rattle.vs_scope.specs.Frames.{around_env}
use Rattle.vs_scope.specs.Functions.{IsSaidFunction}
use Rattle.vs_scope.proofs.Saying.{saying_more}
use Rattle.vs_scope.proofs.functions.say_function.Goals as goal

pub returns-clause-said : goal.returns-clause-said
returns-clause-said c = λ rest all called before.
    let outer = around_env c.args.around in
    let old = c.args.names.now in
    let f = c.args.f in
    let one = c.in_ok-one.field-0.said in
    let p = c.in_ok-put_function.ensures in
    let says = c.in_ok-one.ensures.said in
    saying_more outer old c.put_function.new.self c.args.said _ f one c.in_ok-one.field-0.reads.items rest all called
    p.called
    p.shapes
    (subst (λ (n : ℕ). IsSaidFunction one (said_function c.args.said.counts.functions n old.scope (within outer (complete outer old)) (view.function f.now))) c.saturating_sub-left.ensures says)
    c.in_ok-one.ensures.reads
    c.first_of-fault.ensures c.in_ok-copies.ensures c.in_ok-functions.ensures before
