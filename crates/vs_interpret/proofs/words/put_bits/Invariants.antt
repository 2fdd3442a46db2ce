use Rattle.std.proofs.Common.{◌≡◌, ◌+◌, ◌-◌, length, drop, map, Some}
use Rattle.vs_net.specs.Network.{write_all}
use Rattle.vs_design.specs.Effects.{pair_up}
use Rattle.vs_design.specs.Values.{count_from}
use Rattle.vs_writes.specs.Held.{state_of}
use Rattle.vs_interpret.proofs.words.put_bits.Given as goal

abbrev pub invariant-loop-k : goal.invariant-loop-k
invariant-loop-k l =
    write_all (state_of l.values) (pair_up (map Some (count_from (l.first + l.k) (length l.value - l.k))) (drop l.k l.value))
    ≡ write_all (state_of l.initial.values) (pair_up (map Some (count_from l.first (length l.value))) l.value)
