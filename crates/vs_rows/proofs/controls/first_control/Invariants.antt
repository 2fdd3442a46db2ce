use Rattle.std.proofs.Common.{◌≡◌, ◌≤◌, ◌+◌, ◌-◌, length, drop}
use Rattle.vs_rows.specs.Controls as spec
use Rattle.vs_rows.proofs.controls.first_control.Given as goal

abbrev pub invariant-loop-k : goal.invariant-loop-k
invariant-loop-k l = record {
  names : l.k ≤ length l.names;
  fields : l.k ≤ length l.fields;
  left : spec.first_control l.control l.inputs l.header l.line (1 + l.k) (drop l.k l.names) (drop l.k l.fields) ≡ spec.first_control l.control l.inputs l.header l.line 1 l.names l.fields;
}

abbrev pub decreases-loop-k : goal.decreases-loop-k
decreases-loop-k l = length l.names - l.k
