use Rattle.std.proofs.Common.{sym, ◌∙◌}
use Rattle.vs_assemble.proofs.Signals.{bit_kept, bit_left}
use Rattle.vs_assemble.proofs.frames.push_bits.Goals as goal
use Rattle.vs_assemble.proofs.frames.push_bits.Goals.{then-not-is_among+in_ok-push, else-not-is_among}

pub loop-k-preserved : goal.loop-k-preserved
loop-k-preserved c =
    elim c.if-not-is_among.branch [
      | then-not-is_among+in_ok-push w ↦
          bit_kept c.args.span.first c.loop-k.k c.args.clocks.now c.args.bits.now.items c.loop-k.bits.items c.if-not-is_among.bits.items (sym c.is_among.ensures ∙ w.if-not-is_among.true) (cc (w.bits-is, w.in_ok-push.ensures.items)) c.loop-k.invariant
      | else-not-is_among w ↦
          bit_left c.args.span.first c.loop-k.k c.args.clocks.now c.args.bits.now.items c.loop-k.bits.items c.if-not-is_among.bits.items (sym c.is_among.ensures ∙ w.if-not-is_among.false) (cc (w.bits-is)) c.loop-k.invariant
    ]
