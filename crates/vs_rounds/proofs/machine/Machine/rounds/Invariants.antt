use Rattle.std.proofs.Common.{◌≡◌, ◌≤◌, ◌<◌, true, ◌*◌, length, IsTrue}
use Rattle.vs_desk.specs.Places.{most_lanes}
use Rattle.vs_feed.specs.Lanes.{AreAttached}
use Rattle.vs_waves.specs.Puts.{AreWritable}
use Rattle.vs_rounds.specs.Lanes.{Run, AreInRound}
use Rattle.vs_rounds.specs.Ready.{IsReady}
use Rattle.vs_rounds.specs.Stops.{OthersStay}
use Rattle.vs_rounds.specs.Counts.{TicksRounds}
use Rattle.vs_rounds.proofs.Counting.{AreTaken}
use Rattle.vs_rounds.proofs.machine.Machine.rounds.Given as goal

abbrev pub invariant-loop-round : goal.invariant-loop-round
invariant-loop-round g l =
    record {
      ready : IsReady l.round l.self;
      readable : AreAttached (g.D.Desk.told l.desk).register l.self.stimuli;
      writable : AreWritable (g.D.Desk.told l.desk).register (length l.self.waves);
      same : (g.D.Desk.told l.desk).register ≡ (g.D.Desk.told l.initial.desk).register;
      lanes : length l.self.stimuli ≡ length l.initial.self.stimuli;
      waves : length l.self.waves ≡ length l.initial.self.waves;
      program : l.self.engine.program ≡ l.initial.self.engine.program;
      few : l.vectors ≤ most_lanes * l.round;
      begun : 0 < l.round → l.self.engine.begun ≡ true;
      begins : l.round ≡ 0 → l.self.engine.begun ≡ l.initial.self.engine.begun;
      ticked : TicksRounds l.initial.self.engine.program l.initial.self.engine.begun l.round l.initial.steps l.steps;
      others : IsTrue g.D.Desk.tells → OthersStay (length l.initial.self.stimuli) (g.D.Desk.told l.initial.desk).contents (g.D.Desk.told l.desk).contents;
      in_round : IsTrue g.D.Desk.tells → (run : Run) → AreInRound g.W.Word.lane run 0 l.initial.self (g.D.Desk.told l.initial.desk).contents → AreInRound g.W.Word.lane run l.round l.self (g.D.Desk.told l.desk).contents;
      taken : IsTrue g.D.Desk.tells → (run : Run) → AreInRound g.W.Word.lane run 0 l.initial.self (g.D.Desk.told l.initial.desk).contents → AreTaken run (length l.initial.self.stimuli) l.round l.vectors;
    }
