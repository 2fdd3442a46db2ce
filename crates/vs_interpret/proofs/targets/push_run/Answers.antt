use Rattle.std.proofs.Common.{get_or, [], ◌∷◌, ◌++◌, refl, ap, ◌∙◌}
use Rattle.vs_four.specs.declared.Bit4.TheVariants.{Zero}
use Rattle.vs_interpret.proofs.TargetSteps.{run_step, run_done}
use Rattle.vs_interpret.proofs.targets.push_run.Goals as goal

pub loop-k-preserved : goal.loop-k-preserved
loop-k-preserved c =
    run_step c.loop-k.out c.push.new.self _ c.args.first c.loop-k.k (get_or c.args.value.now c.loop-k.k Zero) c.args.value.now c.loop-k-test.true refl c.loop-k.invariant (c.in_ok-push.ensures ∙ ap (λ w. c.loop-k.out ++ w ∷ []) c.new.ensures)

pub returns : goal.returns
returns c = run_done c.loop-k.out _ c.args.first c.loop-k.k c.args.value.now c.loop-k-test.false c.loop-k.invariant
