use Rattle.std.proofs.Common.{◌+◌, arith}
use Rattle.vs_program.proofs.Executing.{stores_more, stores_within}
use Rattle.vs_program.proofs.compiled.count_stores.Goals as goal

pub overflow_add-count : goal.overflow_add-count
overflow_add-count c =
    let n = c.loop-run.run-index in
    omega (
      arith,
      c.requires.few,
      c.loop-run.invariant,
      c.length_of_part-count.ensures.exact,
      stores_more c.args.calls.now c.args.runs.now n c.loop-run-test.true,
      stores_within c.args.calls.now c.args.runs.now (n + 1),
    )

pub loop-run-preserved : goal.loop-run-preserved
loop-run-preserved c =
    omega (arith, c.loop-run.invariant, c.length_of_part-count.ensures.exact, stores_more c.args.calls.now c.args.runs.now c.loop-run.run-index c.loop-run-test.true)
