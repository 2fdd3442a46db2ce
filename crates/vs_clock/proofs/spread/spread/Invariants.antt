use Rattle.vs_clock.specs.Spread.{Spreads, effort}
use Rattle.vs_clock.proofs.spread.spread.Given as goal

abbrev pub invariant-loop-bit : goal.invariant-loop-bit
invariant-loop-bit l = Spreads l.targets l.root l.fn.labels l.labels l.pending.items

abbrev pub decreases-loop-bit : goal.decreases-loop-bit
decreases-loop-bit l = effort l.labels l.pending.items
