use Rattle.std.proofs.Common.{◌≡◌, ◌-◌, IsTrue}
use Rattle.vs_desk.specs.Taking.{OnlyTaken}
use Rattle.vs_stim.specs.Reading.{limits}
use Rattle.vs_stim.specs.Row.{row_with, IsRow, SameForm}
use Rattle.vs_stim.specs.Source.{open_at, in_block, is_told, says, IsSource, SameLine, GoesOn}
use Rattle.vs_stim.proofs.vectors.feed_row.Given as goal

abbrev pub invariant-line : goal.invariant-line
invariant-line g l =
    let before = open_at l.initial.source (g.D.Desk.told l.initial.desk) in
    let now = open_at l.source (g.D.Desk.told l.desk) in
    record {
      source : IsSource l.source;
      row : IsRow l.row;
      form : SameForm l.initial.row l.row;
      place : l.source.place ≡ l.initial.source.place;
      number : l.source.number ≡ l.initial.source.number;
      start : l.source.start ≡ l.initial.source.start;
      register : (g.D.Desk.told l.desk).register ≡ (g.D.Desk.told l.initial.desk).register;
      others : IsTrue g.D.Desk.tells → OnlyTaken l.initial.source.place (g.D.Desk.told l.initial.desk).contents (g.D.Desk.told l.desk).contents;
      line : IsTrue g.D.Desk.tells → SameLine before now;
      goes : IsTrue g.D.Desk.tells → GoesOn before now;
      spoken : IsTrue g.D.Desk.tells → row_with l.row (says now) ≡ row_with l.initial.row (says before);
      frugal : IsTrue (is_told (in_block l.initial.source)) → l.desk ≡ l.initial.desk;
      told_line : IsTrue (is_told (in_block l.initial.source)) → SameLine (in_block l.initial.source) (in_block l.source);
      told_says : IsTrue (is_told (in_block l.initial.source)) → row_with l.row (says (in_block l.source)) ≡ row_with l.initial.row (says (in_block l.initial.source));
    }

abbrev pub decreases-line : goal.decreases-line
decreases-line g l = limits.line - l.source.length
