use Rattle.std.proofs.Common.{◌==◌, ◌∙◌, ap, sym, w64}
use Rattle.std.proofs.lemmas.Nat.Bits.{bit_at_set_same, bit_at_set_other, bit_at_clear_same, bit_at_clear_other}
use Rattle.vs_plane.proofs.arrays.with_bit.Goals as goal

pub returns-then-bit-clause-changed : goal.returns-then-bit-clause-changed
returns-then-bit-clause-changed c =
    ap (λ n. n == 1) (bit_at_set_same w64 c.args.word c.args.i c.requires) ∙ sym c.if-bit.true

pub returns-then-bit-clause-others : goal.returns-then-bit-clause-others
returns-then-bit-clause-others c k h ne = bit_at_set_other w64 c.args.word c.args.i c.requires k ne

pub returns-else-bit-clause-changed : goal.returns-else-bit-clause-changed
returns-else-bit-clause-changed c =
    ap (λ n. n == 1) (bit_at_clear_same w64 c.args.word c.args.i c.requires) ∙ sym c.if-bit.false

pub returns-else-bit-clause-others : goal.returns-else-bit-clause-others
returns-else-bit-clause-others c k h ne = bit_at_clear_other w64 c.args.word c.args.i c.requires k h ne
