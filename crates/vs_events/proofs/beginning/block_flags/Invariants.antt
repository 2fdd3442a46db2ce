use Rattle.std.proofs.Common.{◌≡◌, map, take}
use Rattle.vs_events.specs.Beginning.{is_block}
use Rattle.vs_events.proofs.beginning.block_flags.Given as goal

abbrev pub invariant-loop-k : goal.invariant-loop-k
invariant-loop-k l = l.flags.items ≡ map is_block (take l.k l.roles)
