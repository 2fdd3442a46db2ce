use Rattle.std.proofs.Common.{◌≡◌, ◌-◌, IsTrue}
use Rattle.vs_desk.specs.Taking.{OnlyTaken}
use Rattle.vs_stim.specs.Reading.{limits}
use Rattle.vs_stim.specs.Heading.{heading_with, IsHeading}
use Rattle.vs_stim.specs.Source.{open_at, says, IsSource, SameLine, GoesOn}
use Rattle.vs_stim.proofs.header.feed_heading.Given as goal

abbrev pub invariant-line : goal.invariant-line
invariant-line g l =
    let before = open_at l.initial.source (g.D.Desk.told l.initial.desk) in
    let now = open_at l.source (g.D.Desk.told l.desk) in
    record {
      source : IsSource l.source;
      heading : IsHeading l.ports l.heading;
      place : l.source.place ≡ l.initial.source.place;
      number : l.source.number ≡ l.initial.source.number;
      start : l.source.start ≡ l.initial.source.start;
      register : (g.D.Desk.told l.desk).register ≡ (g.D.Desk.told l.initial.desk).register;
      others : IsTrue g.D.Desk.tells → OnlyTaken l.initial.source.place (g.D.Desk.told l.initial.desk).contents (g.D.Desk.told l.desk).contents;
      line : IsTrue g.D.Desk.tells → SameLine before now;
      goes : IsTrue g.D.Desk.tells → GoesOn before now;
      says : IsTrue g.D.Desk.tells → heading_with l.ports l.heading (says now) ≡ heading_with l.ports l.initial.heading (says before);
    }

abbrev pub decreases-line : goal.decreases-line
decreases-line g l = limits.line - l.source.length
