use Rattle.std.proofs.Common.{sym, ◌∙◌}
use Rattle.vs_writes.proofs.Writing.{found_write, other_write, none_written}
use Rattle.vs_writes.proofs.writes.is_written.Goals as goal

pub returns-then-bit : goal.returns-then-bit
returns-then-bit c = sym (c.loop-write.invariant ∙ found_write c.args.writes.now c.loop-write.write-index c.args.bit c.write-item.result c.write-item.is c.loop-write-test.true (c.if-bit.true ∙ c.bit.ensures))

pub loop-write-preserved : goal.loop-write-preserved
loop-write-preserved c = c.loop-write.invariant ∙ other_write c.args.writes.now c.loop-write.write-index c.args.bit c.write-item.result c.write-item.is c.loop-write-test.true (λ same. c.if-bit.false (same ∙ sym c.bit.ensures))

pub returns : goal.returns
returns c = sym (c.loop-write.invariant ∙ none_written c.args.writes.now c.loop-write.write-index c.args.bit c.loop-write-test.false)
