use Rattle.vs_assemble.proofs.Planned.{flag_more, flag_same}
use Rattle.vs_assemble.proofs.planning.flagged.Goals as goal
use Rattle.vs_assemble.proofs.planning.flagged.Goals.{then-flag+in_ok-push, else-flag}

pub loop-n-preserved : goal.loop-n-preserved
loop-n-preserved c = λ set are.
    let so_far = c.loop-n.invariant set are in
    elim c.if-flag.branch [
      | then-flag+in_ok-push w ↦
          let next = flag_more c.args.flags.now set c.loop-n.n c.loop-n-test.true are w.if-flag.true in
          cc (w.numbers-is, w.in_ok-push.ensures.items, so_far, next)
      | else-flag w ↦
          let next = flag_same c.args.flags.now set c.loop-n.n c.loop-n-test.true are w.if-flag.false in
          cc (w.numbers-is, so_far, next)
    ]
