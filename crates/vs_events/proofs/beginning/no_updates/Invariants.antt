use Rattle.std.proofs.Common.{◌≡◌, [], replicate}
use Rattle.vs_events.proofs.beginning.no_updates.Given as goal

abbrev pub invariant-loop-p : goal.invariant-loop-p
invariant-loop-p l = l.all.items ≡ replicate l._p []
