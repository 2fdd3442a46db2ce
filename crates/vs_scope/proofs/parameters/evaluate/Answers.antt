use Rattle.std.proofs.Common.{ℕ, map, drop, sym, subst, ◌∙◌, add-one}
use Rattle.vs_scope.specs.Frames.{around_env}
use Rattle.vs_scope.specs.Overrides.{overrides_of}
use Rattle.vs_scope.specs.Views as scope
use Rattle.vs_scope.proofs.Evaluations.{IsEvaluated, evaluated_more, shaped_at}
use Rattle.vs_scope.proofs.Changes.{still_then}
use Rattle.vs_scope.proofs.parameters.evaluate.Goals as goal

pub evaluate_one-requires-clause-shaped : goal.evaluate_one-requires-clause-shaped
evaluate_one-requires-clause-shaped c = shaped_at c.args.declarations.now c.loop-d.d-index c.d-item.result c.requires.shaped c.loop-d-test.true c.d-item.is

pub loop-d-preserved : goal.loop-d-preserved
loop-d-preserved c =
    let ds = c.args.declarations.now in
    let outer = around_env c.args.around in
    let os = overrides_of c.args.around.frames.now c.args.overrides.now in
    let e = c.in_ok-found.ensures in
    let more = evaluated_more outer os ds c.loop-d.d-index c.d-item.result (map scope.declaration ds) (scope.entries c.args.names.now) (scope.entries c.loop-d.names) (scope.entries c.evaluate_one.new.names) c.loop-d.fault c.in_ok-found.found c.first_of-fault.result
    c.loop-d-test.true c.d-item.is c.loop-d.invariant.0 e.entries e.fault c.first_of-fault.ensures in
    (subst (λ (n : ℕ). IsEvaluated outer os (map scope.declaration (drop n ds)) (map scope.declaration ds) (scope.entries c.args.names.now) (scope.entries c.evaluate_one.new.names) c.first_of-fault.result) (sym (add-one c.loop-d.d-index)) more, e.named ∙ c.loop-d.invariant.1, still_then c.args.names.now c.loop-d.names c.evaluate_one.new.names c.loop-d.invariant.2 e.still)

pub evaluate_one-requires-clause-incomplete : goal.evaluate_one-requires-clause-incomplete
evaluate_one-requires-clause-incomplete c = c.loop-d.invariant.2.incomplete c.requires.incomplete
