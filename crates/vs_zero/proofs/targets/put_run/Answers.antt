use Rattle.std.proofs.Common.{◌+◌, ◌<◌, length, sym, ◌∙◌, arith}
use Rattle.vs_four.specs.declared.Bit4.TheVariants.{X, Zero}
use Rattle.vs_sets.proofs.Families.{any_default}
use Rattle.vs_zero.specs.States.{state_of}
use Rattle.vs_zero.proofs.Writing.{run_step, run_done}
use Rattle.vs_zero.proofs.targets.put_run.Goals as goal

pub loop-k-preserved : goal.loop-k-preserved
loop-k-preserved c =
    let inside : c.args.first + c.loop-k.k < length c.loop-k.state = omega (arith, c.loop-k.auto.state) in
    run_step c.loop-k.state c.args.first c.loop-k.k c.args.value.now _ c.loop-k-test.true inside (any_default c.args.value.now c.loop-k.k Zero X c.loop-k-test.true) ∙ c.loop-k.invariant

pub returns : goal.returns
returns c = sym (run_done c.args.first c.loop-k.k c.args.value.now (state_of c.loop-k.state) c.loop-k-test.false) ∙ c.loop-k.invariant
