use Rattle.std.proofs.Common.{◌≡◌, ◌-◌, IsTrue}
use Rattle.vs_desk.specs.Taking.{OnlyTaken}
use Rattle.vs_stim.specs.Reading.{limits}
use Rattle.vs_stim.specs.Row.{IsRow, SameForm, each_input, columns_in}
use Rattle.vs_stim.specs.Source.{open_at, in_block, text_tells, IsSource, vectors_from}
use Rattle.vs_stim.proofs.Untold.{IsPassed}
use Rattle.vs_stim.proofs.vectors.find_vector.Given as goal

abbrev pub invariant-lines : goal.invariant-lines
invariant-lines g l =
    record {
      source : IsSource l.source;
      begins : l.source.length ≡ 0;
      row : IsRow l.row;
      each : IsTrue (each_input l.row);
      form : SameForm l.initial.row l.row;
      place : l.source.place ≡ l.initial.source.place;
      register : (g.D.Desk.told l.desk).register ≡ (g.D.Desk.told l.initial.desk).register;
      others : IsTrue g.D.Desk.tells → OnlyTaken l.initial.source.place (g.D.Desk.told l.initial.desk).contents (g.D.Desk.told l.desk).contents;
      frugal : IsTrue (text_tells (in_block l.initial.source)) → l.desk ≡ l.initial.desk;
      told : IsTrue (text_tells (in_block l.initial.source)) → IsTrue (text_tells (in_block l.source));
      passed : IsTrue g.D.Desk.tells → IsPassed (open_at l.initial.source (g.D.Desk.told l.initial.desk)) (open_at l.source (g.D.Desk.told l.desk));
      reading : IsTrue g.D.Desk.tells →
          vectors_from (columns_in l.initial.row) l.count (open_at l.initial.source (g.D.Desk.told l.initial.desk)) ≡ vectors_from (columns_in l.row) l.count (open_at l.source (g.D.Desk.told l.desk));
    }

abbrev pub decreases-lines : goal.decreases-lines
decreases-lines g l = limits.bytes - l.source.start
