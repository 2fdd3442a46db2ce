-- A check whose rounds can begin.
use Rattle.vs_design.specs.Clocks.{clock_bits}
use Rattle.std.specs.Prelude.{◌≡◌, ℕ, Bool, IsTrue, length, None}
use Rattle.vs_desk.specs.Desk.{Told}
use Rattle.vs_feed.specs.Lanes.{OtherPlacesKept}
use Rattle.vs_rounds.specs.Checked.{Checking, AreFoundIn}
use Rattle.vs_job.specs.declared.job.Job.{Job}
use Rattle.vs_job.specs.Places.{same_paths}
use Rattle.vs_setup.specs.Ports.{ports_of}
use Rattle.vs_setup.specs.Prepared.{IsCheckPrepared, run_of}

-- The paths differ, the check was prepared, and then the first vectors were read, where the desk told this before and tells that now, and `lane` reads a
-- lane of a word.
pub record IsCheckBegun {W : Type 0} (lane : W → ℕ → Bool) {tells : Bool} (job : Job) (old new : Told tells) (m : Checking W) (size : ℕ) : Type 0 where
  pub different : same_paths job ≡ None
  -- when it was prepared
  pub middle : Told tells
  pub before : Checking W
  pub prepared : IsCheckPrepared lane job old middle before size
  -- and since
  pub engine : m.engine ≡ before.engine
  pub lanes : length m.stimuli ≡ length before.stimuli
  pub register_is : new.register ≡ middle.register
  pub others : IsTrue tells → OtherPlacesKept (length before.stimuli) middle.contents new.contents
  pub in_round : IsTrue tells
      → AreFoundIn lane (run_of job old.contents.files prepared.design (clock_bits prepared.accepted.accepted.clocks) (ports_of job.mode prepared.accepted)) 0 m new.contents
