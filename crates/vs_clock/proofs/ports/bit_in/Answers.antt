use Rattle.std.proofs.Common.{sym, ◌∙◌}
use Rattle.vs_flat.specs.Trees.{signal_of}
use Rattle.vs_clock.proofs.Single.{bit_is, no_bit}
use Rattle.vs_clock.proofs.ports.bit_in.Goals as goal
use Rattle.vs_clock.proofs.ports.bit_in.Goals.{else-range_bits-eq1-via-then-range_bits-eq1+else-range_bits-eq1-2, else-range_bits-eq1-via-else-range_bits-eq1}

pub returns-then-range_bits-eq1-2 : goal.returns-then-range_bits-eq1-2
returns-then-range_bits-eq1-2 c n = sym (bit_is (signal_of n c.args.signal.now) (sym c.range_bits.ensures ∙ c.if-range_bits-eq1.true) (sym c.range_bits-then-range_bits-eq1.ensures ∙ c.if-range_bits-eq1-2.true))

pub returns-else-range_bits-eq1 : goal.returns-else-range_bits-eq1
returns-else-range_bits-eq1 c n =
    let s = signal_of n c.args.signal.now in
    elim c.else-range_bits-eq1.branch [
      | else-range_bits-eq1-via-then-range_bits-eq1+else-range_bits-eq1-2 w ↦ sym (no_bit s (λ _ h. w.if-range_bits-eq1-2.false (w.range_bits-then-range_bits-eq1.ensures ∙ h)))
      | else-range_bits-eq1-via-else-range_bits-eq1 w ↦ sym (no_bit s (λ h _. w.if-range_bits-eq1.false (c.range_bits.ensures ∙ h)))
    ]
