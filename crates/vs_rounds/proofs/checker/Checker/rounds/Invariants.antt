use Rattle.std.proofs.Common.{◌≡◌, ◌≤◌, ◌<◌, true, ◌*◌, length, IsTrue}
use Rattle.vs_desk.specs.Places.{most_lanes}
use Rattle.vs_feed.specs.Lanes.{AreAttached, OtherPlacesKept}
use Rattle.vs_rounds.specs.Lanes.{Run}
use Rattle.vs_rounds.specs.Counts.{TicksRounds}
use Rattle.vs_rounds.specs.Checked.{IsCheckable, AreFoundIn}
use Rattle.vs_rounds.proofs.Counting.{AreTaken}
use Rattle.vs_rounds.proofs.checker.Checker.rounds.Given as goal

abbrev pub invariant-loop-round : goal.invariant-loop-round
invariant-loop-round g l =
    record {
      ready : IsCheckable l.self;
      readable : AreAttached (g.D.Desk.told l.desk).register l.self.stimuli;
      same : (g.D.Desk.told l.desk).register ≡ (g.D.Desk.told l.initial.desk).register;
      lanes : length l.self.stimuli ≡ length l.initial.self.stimuli;
      outputs : l.self.misses.outputs ≡ l.initial.self.misses.outputs;
      program : l.self.engine.program ≡ l.initial.self.engine.program;
      few : l.vectors ≤ most_lanes * l.round;
      begun : 0 < l.round → l.self.engine.begun ≡ true;
      begins : l.round ≡ 0 → l.self.engine.begun ≡ l.initial.self.engine.begun;
      ticked : TicksRounds l.initial.self.engine.program l.initial.self.engine.begun l.round l.initial.steps l.steps;
      others : IsTrue g.D.Desk.tells → OtherPlacesKept (length l.initial.self.stimuli) (g.D.Desk.told l.initial.desk).contents (g.D.Desk.told l.desk).contents;
      in_round : IsTrue g.D.Desk.tells → (run : Run) → AreFoundIn g.W.Word.lane run 0 l.initial.self (g.D.Desk.told l.initial.desk).contents → AreFoundIn g.W.Word.lane run l.round l.self (g.D.Desk.told l.desk).contents;
      taken : IsTrue g.D.Desk.tells → (run : Run) → AreFoundIn g.W.Word.lane run 0 l.initial.self (g.D.Desk.told l.initial.desk).contents → AreTaken run (length l.initial.self.stimuli) l.round l.vectors;
    }
