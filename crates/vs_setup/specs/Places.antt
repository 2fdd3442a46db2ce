-- The places of a run's texts on a desk.
use Rattle.std.specs.Prelude.{ℕ, ◌<◌, IsNone, List}
use Rattle.vs_desk.specs.Desk.{Register}
use Rattle.vs_desk.specs.Places.{stimulus_place}
use Rattle.vs_feed.specs.Opened.{with_lanes}
use Rattle.vs_job.specs.declared.job.Job.{Job}
use Rattle.vs_setup.specs.DesignText.{AreFilesFree, with_design}

-- none of the places is attached, of so many lanes and further files of the design
pub record IsFresh (register : Register) (lanes others : ℕ) : Type 0 where
  pub files : AreFilesFree register others
  pub stimuli : (i : ℕ) → i < lanes → IsNone (register.attached (stimulus_place i))

-- the places of the design's files and the places of these stimuli, attached to their paths
abbrev pub with_texts : Register → Job → List (List ℕ) → Register
with_texts register job stimuli = with_lanes (with_design register job.design job.others) stimuli
