use Rattle.std.proofs.Common.{map}
use Rattle.vs_clock.proofs.Naming.{SoFar}
use Rattle.vs_clock.proofs.inputs.named_clocks.Given as goal

abbrev pub invariant-loop-k : goal.invariant-loop-k
invariant-loop-k l = SoFar l.flat (map (λ c. c.now) l.names) l.k l.numbers.items l.bits.items
