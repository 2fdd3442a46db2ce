use Rattle.std.proofs.Common.{◌+◌, ◌<◌, length, ◌∙◌, arith}
use Rattle.vs_sets.proofs.Families.{run_step}
use Rattle.vs_sets.proofs.table.put_run.Goals as goal

pub loop-k-preserved : goal.loop-k-preserved
loop-k-preserved c =
    let inside : c.args.first + c.loop-k.k < length c.loop-k.table = omega (arith, c.loop-k.auto.table) in
    run_step c.loop-k.table c.args.first c.loop-k.k c.args.sets.now c.index-sets-k.result c.loop-k-test.true inside c.index-sets-k.is ∙ c.loop-k.invariant
