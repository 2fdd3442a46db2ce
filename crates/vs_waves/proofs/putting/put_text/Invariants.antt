use Rattle.std.proofs.Common.{◌≤◌, ◌+◌, ◌++◌, ◌-◌, length, take, drop, ◌≡◌}
use Rattle.vs_waves.proofs.Draining.{Drained}
use Rattle.vs_waves.proofs.putting.put_text.Given as goal

abbrev pub invariant-loop-block : goal.invariant-loop-block
invariant-loop-block g l = record {
  long : length l.block ≡ length l.initial.block;
  filled : l.filled ≤ length l.block;
  from : l.from ≤ length l.text;
  drained : Drained (g.D.Desk.told l.initial.desk) (g.D.Desk.told l.desk) l.place (take l.fn.filled l.initial.block ++ l.text) (take l.filled l.block ++ drop l.from l.text);
}

abbrev pub decreases-loop-block : goal.decreases-loop-block
decreases-loop-block g l = (length l.text - l.from) + l.filled
