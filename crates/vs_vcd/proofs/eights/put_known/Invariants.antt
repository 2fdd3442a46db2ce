use Rattle.std.proofs.Common.{◌+◌, ◌-◌, ◌≡◌, ◌≤◌, length}
use Rattle.vs_vcd.proofs.Digits.{AtTop, Stand}
use Rattle.vs_vcd.proofs.eights.put_known.Given as goal

abbrev pub invariant-loop-place : goal.invariant-loop-place
invariant-loop-place l = record {
  end_is : l.end ≡ l.at + l.count;
  from : l.at ≤ l.place;
  long : length l.block ≡ length l.fn.block;
  rest : AtTop l.count (l.place - l.at) l.number l.rest;
  text : Stand l.at l.count l.number 0 (l.place - l.at) l.fn.block l.block;
}

abbrev pub decreases-loop-place : goal.decreases-loop-place
decreases-loop-place l = l.end - l.place
