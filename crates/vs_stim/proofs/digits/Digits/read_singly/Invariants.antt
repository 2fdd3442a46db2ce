use Rattle.std.proofs.Common.{◌-◌, ◌≤◌}
use Rattle.vs_stim.proofs.Ahead.{HasRead}
use Rattle.vs_stim.proofs.digits.Digits.read_singly.Given as goal

abbrev pub invariant-loop-count : goal.invariant-loop-count
invariant-loop-count l =
    record {
      few : l.count ≤ l.most;
      read : HasRead l.bytes l.count l.self-inside.len l.self-inside.value l.self-inside.unknown l.value l.unknown;
    }

abbrev pub decreases-loop-count : goal.decreases-loop-count
decreases-loop-count l = l.most - l.count
