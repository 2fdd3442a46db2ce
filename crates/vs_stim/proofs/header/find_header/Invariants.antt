use Rattle.std.proofs.Common.{◌≡◌, ◌-◌, IsTrue}
use Rattle.vs_desk.specs.Taking.{OnlyTaken}
use Rattle.vs_stim.specs.Reading.{limits}
use Rattle.vs_stim.specs.Heading.{IsHeading}
use Rattle.vs_stim.specs.Source.{open_at, IsSource, header_from, header_fault_from}
use Rattle.vs_stim.specs.declared.heading.Stage.TheVariants.{Start}
use Rattle.vs_stim.proofs.Untold.{IsPassed}
use Rattle.vs_stim.proofs.header.find_header.Given as goal

abbrev pub invariant-lines : goal.invariant-lines
invariant-lines g l =
    record {
      source : IsSource l.source;
      begins : l.source.length ≡ 0;
      heading : IsHeading l.ports l.heading;
      stage : l.heading.stage ≡ Start;
      place : l.source.place ≡ l.initial.source.place;
      register : (g.D.Desk.told l.desk).register ≡ (g.D.Desk.told l.initial.desk).register;
      others : IsTrue g.D.Desk.tells → OnlyTaken l.initial.source.place (g.D.Desk.told l.initial.desk).contents (g.D.Desk.told l.desk).contents;
      passed : IsTrue g.D.Desk.tells → IsPassed (open_at l.initial.source (g.D.Desk.told l.initial.desk)) (open_at l.source (g.D.Desk.told l.desk));
      reading : IsTrue g.D.Desk.tells →
          header_from l.ports (open_at l.initial.source (g.D.Desk.told l.initial.desk)) ≡ header_from l.ports (open_at l.source (g.D.Desk.told l.desk));
      fault : IsTrue g.D.Desk.tells →
          header_fault_from l.ports (open_at l.initial.source (g.D.Desk.told l.initial.desk)) ≡ header_fault_from l.ports (open_at l.source (g.D.Desk.told l.desk));
    }

abbrev pub decreases-lines : goal.decreases-lines
decreases-lines g l = limits.bytes - l.source.start
