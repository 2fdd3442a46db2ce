use Rattle.std.proofs.Common.{◌<◌, length, sym, ◌∙◌, arith}
use Rattle.vs_assemble.proofs.Planned.{clocked_more, clocked_same}
use Rattle.vs_assemble.proofs.planning.clocked.Goals as goal
use Rattle.vs_assemble.proofs.planning.clocked.Goals.{then-is_clocked+in_ok-push, else-is_clocked}

pub loop-process-preserved : goal.loop-process-preserved
loop-process-preserved g c =
    let d = g.T.Processes.design c.args.lowering.now in
    let there : c.loop-process.process < length d.processes = omega (arith, c.loop-process-test.true, c.process_count-process-end.ensures) in
    elim c.if-is_clocked.branch [
      | then-is_clocked+in_ok-push w ↦
          let next = clocked_more d c.loop-process.process there (sym c.is_clocked.ensures ∙ w.if-is_clocked.true) in
          cc (w.blocks-is, w.in_ok-push.ensures.items, c.loop-process.invariant, next)
      | else-is_clocked w ↦
          let next = clocked_same d c.loop-process.process there (sym c.is_clocked.ensures ∙ w.if-is_clocked.false) in
          cc (w.blocks-is, c.loop-process.invariant, next)
    ]
