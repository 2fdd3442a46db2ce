use Rattle.std.proofs.Common.{◌≤◌, length}
use Rattle.vs_vcd.specs.Groups.{AreLinkedFrom}
use Rattle.vs_vcd.proofs.groups.Groups.of.Given as goal

abbrev pub invariant-loop-place : goal.invariant-loop-place
invariant-loop-place l = record {
  linked : AreLinkedFrom l.place l.groups l.keys l.linked.first.items l.linked.next.items;
  within : l.place ≤ length l.keys;
}

abbrev pub decreases-loop-place : goal.decreases-loop-place
decreases-loop-place l = l.place
