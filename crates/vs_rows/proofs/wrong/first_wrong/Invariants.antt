use Rattle.std.proofs.Common.{◌≡◌, ◌≤◌, ◌+◌, ◌-◌, false, length, drop}
use Rattle.std.specs.Prelude.{option_map}
use Rattle.vs_rows.specs.Fields as spec
use Rattle.vs_rows.proofs.wrong.first_wrong.Given as goal

abbrev pub invariant-loop-k : goal.invariant-loop-k
invariant-loop-k l = record {
  names : l.k ≤ length l.names;
  fields : l.k ≤ length l.fields;
  left : spec.first_wrong (option_map (λ d. d.now) l.drawing) l.header l.line (l.place + l.k) l.expected (drop l.k l.names) (drop l.k l.fields)
      ≡ spec.first_wrong (option_map (λ d. d.now) l.drawing) l.header l.line l.place false l.names l.fields;
}

abbrev pub decreases-loop-k : goal.decreases-loop-k
decreases-loop-k l = length l.names - l.k
