use Rattle.std.proofs.Common.{◌≡◌, not, sym, ap, ◌∙◌, arith, get_or, false}
use Rattle.vs_design.specs.Footprints.{contains}
use Rattle.vs_block.proofs.Least.{first_is, first_none}
use Rattle.vs_block.proofs.missing.first_missing.Goals as goal

pub returns-then-not-is_among : goal.returns-then-not-is_among
returns-then-not-is_among c =
    let lacks : contains c.args.waits.now (get_or c.args.reads.now c.loop-bit.bit-index 0) ≡ false = sym c.is_among.ensures ∙ c.if-not-is_among.true in
    sym (first_is (λ b. not (contains c.args.waits.now b)) c.args.reads.now c.loop-bit.bit-index c.requires.reads c.loop-bit-test.true (ap not lacks) (λ j l. ap not (c.loop-bit.invariant j l)))

pub returns : goal.returns
returns c = sym (first_none (λ b. not (contains c.args.waits.now b)) c.args.reads.now (λ j l. ap not (c.loop-bit.invariant j (omega (arith, l, c.loop-bit-test.false)))))
