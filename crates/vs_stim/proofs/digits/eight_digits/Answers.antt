use Rattle.std.proofs.Common.{arith}
use Rattle.vs_stim.proofs.Eights.{eight_bits}
use Rattle.vs_stim.proofs.digits.eight_digits.Goals as goal

pub returns-clause-digits : goal.returns-clause-digits
returns-clause-digits c =
    eight_bits c.args.bytes.now c.in_ok-first_chunk.field-0.now c.from_le_bytes-word.result c.in_ok-first_chunk.ensures.cases.enough c.in_ok-first_chunk.ensures.cases.same (λ k. omega (arith, c.type_inv.bytes k)) c.from_le_bytes-word.ensures c.if-word-ne-ZERO_DIGITS.false
