use Rattle.std.proofs.Common.{sym, ◌∙◌}
use Rattle.vs_compile.proofs.Numbered.{nets_more, nets_same}
use Rattle.vs_compile.proofs.nets.net_bits.Goals as goal
use Rattle.vs_compile.proofs.nets.net_bits.Goals.{then-is_clock+in_ok-push, else-is_clock}

pub loop-bit-preserved : goal.loop-bit-preserved
loop-bit-preserved c = λ d clocks are.
    let so_far = c.loop-bit.invariant d clocks are in
    elim c.if-is_clock.branch [
      | then-is_clock+in_ok-push w ↦
          let next = nets_more d clocks c.args.clocks.now.nets c.loop-bit.bit are (sym c.is_clock.ensures ∙ w.if-is_clock.true) in
          cc (w.bits-is, w.in_ok-push.ensures.items, so_far, next)
      | else-is_clock w ↦
          let next = nets_same d clocks c.args.clocks.now.nets c.loop-bit.bit are (sym c.is_clock.ensures ∙ w.if-is_clock.false) in
          cc (w.bits-is, so_far, next)
    ]
