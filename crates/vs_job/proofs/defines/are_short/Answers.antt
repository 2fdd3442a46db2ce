use Rattle.std.proofs.Common.{ℕ, List, [], Bor, arith}
use Rattle.vs_job.proofs.Heads.{too_long, one_more}
use Rattle.vs_job.proofs.defines.are_short.Goals as goal
use Rattle.vs_job.proofs.defines.are_short.Goals.{then-room-lt-FRAME-via-then-room-lt-FRAME, then-room-lt-FRAME-via-else-room-lt-FRAME+then-room-value}

abbrev closed : Bor (List ℕ)
closed = record { ref_ptr = (0, 0); now = [] }

pub returns-then-room-lt-FRAME : goal.returns-then-room-lt-FRAME
returns-then-room-lt-FRAME c =
    too_long (λ s. s.now) c.args.values.now c.loop-value.value-index c.loop-value.room closed c.loop-value-test.true c.loop-value.invariant
    (elim c.then-room-lt-FRAME.branch [
      | then-room-lt-FRAME-via-then-room-lt-FRAME w ↦ omega arith
      | then-room-lt-FRAME-via-else-room-lt-FRAME+then-room-value w ↦ omega arith
    ])

pub loop-value-preserved : goal.loop-value-preserved
loop-value-preserved c =
    one_more (λ s. s.now) c.args.values.now c.loop-value.value-index c.loop-value.room closed c.loop-value-test.true c.loop-value.invariant c.if-room-lt-FRAME.false c.if-room-value.false
