use Rattle.std.proofs.Common.{◌≡◌, [], replicate}
use Rattle.vs_events.proofs.wiring.Wiring.new.Given as goal

abbrev pub invariant-loop-b : goal.invariant-loop-b
invariant-loop-b l = l.bits.items ≡ replicate l._b []
