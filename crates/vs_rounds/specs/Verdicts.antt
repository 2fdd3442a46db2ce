-- What a check has found where it ends, or where it stops.
use Rattle.std.specs.Prelude.{◌≡◌, ℕ, ◌<◌, List, [], Option, None}
use Rattle.vs_desk.specs.Desk.{Contents}
use Rattle.vs_stim.specs.Known.{place_of}
use Rattle.vs_misses.specs.Missed.{Found}
use Rattle.vs_misses.specs.Watch.{found_at}
use Rattle.vs_rounds.specs.declared.stop.Stop.{Stop}
use Rattle.vs_rounds.specs.Lanes.{Run, reading_of}
use Rattle.vs_rounds.specs.Stops.{ReadStops}
use Rattle.vs_rounds.specs.Counts.{vectors_of}
use Rattle.vs_rounds.specs.Checked.{IsFound}

-- in each lane there was found what is missed of its first k vectors, all of them where it has fewer
pub record AreFound (run : Run) (lanes k : ℕ) (found : List (Option Found)) : Type 0 where
  pub each : (i : ℕ) → i < lanes → IsFound run.design run.clocks run.ports (run.texts i) k (found_at found i)

-- Each lane's stimulus is valid and was taken to its end, and there was found in it what is missed of all its vectors.
pub record AreChecked (run : Run) (lanes : ℕ) (findings : List (Option Found)) (c : Contents) : Type 0 where
  pub valid : (i : ℕ) → i < lanes → (reading_of run i).refusal ≡ None
  pub taken : (i : ℕ) → i < lanes → c.left (place_of i) ≡ []
  pub found : (i : ℕ) → i < lanes → IsFound run.design run.clocks run.ports (run.texts i) (vectors_of run i) (found_at findings i)

-- A check stopped in round k, behind the first: the reading of its vectors did it, and in each lane there was found what the rounds before gave.
pub record IsCheckStop (run : Run) (lanes k : ℕ) (findings : List (Option Found)) (c : Contents) (stop : Stop) : Type 0 where
  pub later : 0 < k
  pub read : ReadStops run lanes k c stop
  pub found : AreFound run lanes k findings
