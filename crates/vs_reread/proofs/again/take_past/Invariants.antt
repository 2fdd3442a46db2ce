use Rattle.std.proofs.Common.{◌≡◌, ◌+◌, ◌-◌, ◌≤◌, [], length, IsTrue}
use Rattle.std.specs.List.{count_by}
use Rattle.vs_desk.specs.Taking.{OnlyTaken}
use Rattle.vs_excerpt.specs.Positions.{is_newline}
use Rattle.vs_reread.specs.Again.{most_stimulus}
use Rattle.vs_reread.proofs.Taken.{IsTaken}
use Rattle.vs_reread.proofs.again.take_past.Given as goal

abbrev pub invariant-taking : goal.invariant-taking
invariant-taking g l = record {
  same : (g.D.Desk.told l.desk).register ≡ (g.D.Desk.told l.fn.desk).register;
  short : length l.text.items ≤ most_stimulus;
  block : length l.block ≡ 4096;
  enough : l.fn.n ≤ l.left + count_by is_newline l.text.items;
  taken : IsTaken g.D.Desk.tells [] ((g.D.Desk.told l.fn.desk).contents.left l.fn.place) ((g.D.Desk.told l.desk).contents.left l.fn.place) l.text.items;
  only : IsTrue g.D.Desk.tells → OnlyTaken l.fn.place (g.D.Desk.told l.fn.desk).contents (g.D.Desk.told l.desk).contents;
}

abbrev pub decreases-taking : goal.decreases-taking
decreases-taking g l = most_stimulus - length l.text.items
