use Rattle.std.proofs.Common.{◌≡◌, ◌≤◌, ◌++◌, length, take, IsTrue}
use Rattle.std.specs.List.{flat_map}
use Rattle.vs_design.specs.Values.{count_from}
use Rattle.vs_waves.specs.Changes.{line_at}
use Rattle.vs_waves.specs.Puts.{PutsFront}
use Rattle.vs_waves.proofs.slot.put_changes.Given as goal

abbrev pub invariant-loop-n : goal.invariant-loop-n
invariant-loop-n g l = record {
  long : length l.block ≡ length l.initial.block;
  filled : l.filled ≤ length l.block;
  same : (g.D.Desk.told l.desk).register ≡ (g.D.Desk.told l.initial.desk).register;
  front : IsTrue g.D.Desk.tells → PutsFront (g.D.Desk.told l.initial.desk).register (g.D.Desk.told l.initial.desk).contents (g.D.Desk.told l.desk).contents l.place
      (take l.fn.filled l.initial.block ++ flat_map (line_at g.W.Word.lane g.W.Word.LANES l.changes l.lane) (count_from 0 l.n)) (take l.filled l.block);
}
