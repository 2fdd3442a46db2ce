use Rattle.std.proofs.Common.{◌≡◌, ◌+◌, [], take, drop}
use Rattle.vs_rows.specs.Naming as spec
use Rattle.vs_rows.proofs.naming.first_bad.Given as goal

abbrev pub invariant-loop-k : goal.invariant-loop-k
invariant-loop-k l =
    spec.first_bad l.ports l.expected l.header (l.place + l.k) (take l.k l.names) (drop l.k l.names) ≡ spec.first_bad l.ports l.expected l.header l.place [] l.names
