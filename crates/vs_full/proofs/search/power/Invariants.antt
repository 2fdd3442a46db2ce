use Rattle.std.proofs.Common.{◌≡◌, ◌≤◌, ◌^◌}
use Rattle.vs_full.proofs.search.power.Given as goal

abbrev pub invariant-loop-k : goal.invariant-loop-k
invariant-loop-k l = record { value : l.value ≡ 2 ^ l._k; most : l.value ≤ 2 ^ 64 }
