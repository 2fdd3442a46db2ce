use Rattle.std.proofs.Common.{◌≡◌, map, take}
use Rattle.vs_events.specs.Beginning.{is_assign}
use Rattle.vs_events.proofs.beginning.assign_flags.Given as goal

abbrev pub invariant-loop-k : goal.invariant-loop-k
invariant-loop-k l = l.flags.items ≡ map is_assign (take l.k l.roles)
