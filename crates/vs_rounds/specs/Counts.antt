-- What a whole run counts.
use Rattle.std.specs.Prelude.{◌≡◌, ℕ, zero, suc, ◌+◌, ◌*◌, ◌<◌, [], length, max, None, Bool}
use Rattle.vs_desk.specs.Desk.{Contents}
use Rattle.vs_net.specs.Bound.{sum_below}
use Rattle.vs_program.specs.Program.{Program, fall_stores, rise_stores}
use Rattle.vs_stim.specs.Known.{place_of}
use Rattle.vs_rounds.specs.Ready.{settling_stores}
use Rattle.vs_waves.specs.Puts.{wave_place}
use Rattle.vs_rounds.specs.Given.{IsGiven}
use Rattle.vs_rounds.specs.Lanes.{Run, reading_of}

-- how many vectors the stimulus of lane i has
abbrev pub vectors_of : Run → ℕ → ℕ
vectors_of run i = length (reading_of run i).vectors

-- the greatest of f 0, .., f (k - 1), or 0
abbrev pub greatest_below : ℕ → (ℕ → ℕ) → ℕ
greatest_below zero f = 0
greatest_below (suc k) f = max (greatest_below k f) (f k)

-- Each lane's stimulus is valid and was taken to its end, and the lane has got all: what it gets before the round behind the one in which its end is read.
pub record AreDone (run : Run) (lanes : ℕ) (c : Contents) : Type 0 where
  pub valid : (i : ℕ) → i < lanes → (reading_of run i).refusal ≡ None
  pub taken : (i : ℕ) → i < lanes → c.left (place_of i) ≡ []
  pub given : (i : ℕ) → i < lanes → IsGiven run.share run.design run.clocks run.half (reading_of run i) (suc (vectors_of run i)) (c.put (wave_place i))

-- the vectors of all lanes together, and two settlings of the engine for each vector of a lane that has most
pub record AreCounted (run : Run) (lanes vectors settlings : ℕ) : Type 0 where
  pub vectors_are : vectors ≡ sum_below lanes (vectors_of run)
  pub settlings_are : settlings ≡ 2 * greatest_below lanes (vectors_of run)

-- The steps of so many rounds, each a fall and a rise for all lanes together; the first one has the first fall where no slot was run before.
pub record TicksRounds (p : Program) (begun : Bool) (rounds before after : ℕ) : Type 0 where
  pub none : rounds ≡ 0 → after ≡ before
  pub some : 0 < rounds → after + fall_stores p ≡ before + settling_stores p begun + rounds * (fall_stores p + rise_stores p)
