use Rattle.std.proofs.Common.{◌≡◌, ◌-◌, ◌≤◌, length, IsTrue}
use Rattle.vs_desk.specs.Taking.{OnlyTaken}
use Rattle.vs_reread.specs.Again.{most_bytes}
use Rattle.vs_reread.proofs.Taken.{IsTaken}
use Rattle.vs_reread.proofs.again.take_start.Given as goal

abbrev pub invariant-taking : goal.invariant-taking
invariant-taking g l = record {
  same : (g.D.Desk.told l.desk).register ≡ (g.D.Desk.told l.fn.desk).register;
  short : length l.text.items ≤ most_bytes;
  block : length l.block ≡ 4096;
  taken : IsTaken g.D.Desk.tells l.fn.head ((g.D.Desk.told l.fn.desk).contents.left l.fn.place) ((g.D.Desk.told l.desk).contents.left l.fn.place) l.text.items;
  only : IsTrue g.D.Desk.tells → OnlyTaken l.fn.place (g.D.Desk.told l.fn.desk).contents (g.D.Desk.told l.desk).contents;
}

abbrev pub decreases-taking : goal.decreases-taking
decreases-taking g l = most_bytes - length l.text.items
