use Rattle.std.proofs.Common.{◌≡◌, ◌+◌, ◌-◌, ◌≤◌, length, IsTrue}
use Rattle.vs_desk.specs.Taking.{OnlyTaken}
use Rattle.vs_accept.specs.Accepted.{most_bytes}
use Rattle.vs_setup.proofs.Taken.{IsTaken}
use Rattle.vs_setup.proofs.design_text.take_text.Given as goal

abbrev pub invariant-taking : goal.invariant-taking
invariant-taking g l = record {
  same : (g.D.Desk.told l.desk).register ≡ (g.D.Desk.told l.fn.desk).register;
  short : length l.text.items ≤ most_bytes + 1;
  block : length l.block ≡ 4096;
  taken : IsTaken g.D.Desk.tells l.fn.text.items ((g.D.Desk.told l.fn.desk).contents.left l.place) ((g.D.Desk.told l.desk).contents.left l.place) l.text.items;
  only : IsTrue g.D.Desk.tells → OnlyTaken l.place (g.D.Desk.told l.fn.desk).contents (g.D.Desk.told l.desk).contents;
}

abbrev pub decreases-taking : goal.decreases-taking
decreases-taking g l = most_bytes + 2 - length l.text.items
