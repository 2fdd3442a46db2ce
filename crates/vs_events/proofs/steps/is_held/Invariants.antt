use Rattle.std.proofs.Common.{◌≡◌, drop}
use Rattle.vs_net.specs.Queue as Q
use Rattle.vs_writes.specs.Held.{state_of}
use Rattle.vs_events.proofs.steps.is_held.Given as goal

abbrev pub invariant-loop-item : goal.invariant-loop-item
invariant-loop-item l = Q.is_held (state_of l.events.values) l.writes ≡ Q.is_held (state_of l.events.values) (drop l.item-index l.writes)
