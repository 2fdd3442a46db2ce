use Rattle.std.proofs.Common.{◌≡◌, ◌-◌, nat_lt, nat_le, false, sym, ap, ◌∙◌, arith}
use Rattle.std.proofs.lemmas.Bool.Decides.{nat_tests}
use Rattle.vs_flat.specs.Arena.{signal_length}
use Rattle.vs_block.proofs.Signals.{within, before}
use Rattle.vs_block.proofs.missing.has_bit.Goals as goal

pub returns-then-signal-bit : goal.returns-then-signal-bit
returns-then-signal-bit c =
    let first = c.args.signal.now.first_bit in
    ap (λ n. nat_lt (c.args.bit - first) n) c.bits_of.ensures ∙ within first (signal_length c.args.signal.now) c.args.bit c.if-signal-bit.true

pub returns-else-signal-bit : goal.returns-else-signal-bit
returns-else-signal-bit c =
    let less : nat_le c.args.signal.now.first_bit c.args.bit ≡ false = grind (arith, nat_tests, c.if-signal-bit.false) in
    less ∙ sym (before c.args.signal.now.first_bit (signal_length c.args.signal.now) c.args.bit c.if-signal-bit.false)
