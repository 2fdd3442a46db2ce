use Rattle.std.proofs.Common.{◌≤◌}
use Rattle.std.specs.Prelude.{vec_capacity}
use Rattle.vs_vcd.proofs.Linking.{AreOwn}
use Rattle.vs_vcd.proofs.links.own_links.Given as goal

abbrev pub invariant-loop-n : goal.invariant-loop-n
invariant-loop-n l = record {
  own : AreOwn l.links.items l.n;
  room : l.signals ≤ vec_capacity l.links;
}
