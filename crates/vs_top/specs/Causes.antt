-- What the desk's counts say of each answer, and which jobs are done.
use Rattle.std.specs.Prelude.{◌≡◌, ◌≢◌, ◌⊎◌, ℕ, ◌<◌, Bool, None, length}
use Rattle.vs_desk.specs.Desk.{Register, Contents, Told, Rose}
use Rattle.vs_design.specs.Designs.{Design}
use Rattle.vs_stim.specs.Reading.{reading}
use Rattle.vs_feed.specs.Opened.{path_at}
use Rattle.vs_job.specs.declared.job.Job.{Job}
use Rattle.vs_job.specs.Places.{same_paths}
use Rattle.vs_setup.specs.Ports.{ports_of}
use Rattle.vs_setup.specs.Unprepared.{IsDesignOf}
use Rattle.vs_top.specs.declared.outcome.Outcome.{Outcome}
use Rattle.vs_top.specs.declared.outcome.Outcome.TheVariants.{Done, Ordered, Refused, ReadFault, WriteFault, Memory}

-- A call failed at this place, which isn't place 0, and was the last one that did.
pub record IsFaultAt (old new : Register) (place : ℕ) : Type 0 where
  pub other : place ≢ 0
  pub rose : Rose old.faults new.faults
  pub failed : new.failed ≡ place

-- Of the report a call failed, and of nothing else.
pub record IsLoss (old new : Register) : Type 0 where
  pub rose : Rose old.losses new.losses
  pub no_fault : new.faults ≡ old.faults

-- What the counts say: a run that is done has no failed call at all; a refusal and want of memory come with none but of the report; a fault
-- comes only where a call failed at its place in this run.
abbrev pub ShowsCause : {tells : Bool} → Told tells → Told tells → Outcome → Type 0
ShowsCause old new (Done s) = (new.register.faults ≡ old.register.faults) × (new.register.losses ≡ old.register.losses)
ShowsCause old new (Ordered c) = (new.register.faults ≡ old.register.faults) × (new.register.losses ≡ old.register.losses)
ShowsCause old new (Refused r) = new.register.faults ≡ old.register.faults
ShowsCause old new Memory = new.register.faults ≡ old.register.faults
ShowsCause old new (ReadFault place) = IsFaultAt old.register new.register place
ShowsCause old new (WriteFault place) = IsFaultAt old.register new.register place ⊎ ((place ≡ 0) × IsLoss old.register new.register)

-- The paths of the job differ, its design is accepted, and each lane's stimulus is valid for each design that it is accepted as, where the
-- files have these bytes. One of a check has to want something of an output.
pub record IsLawful (job : Job) (c : Contents) : Type 0 where
  pub paths : same_paths job ≡ None
  pub design : Design
  pub accepted : IsDesignOf job c design
  pub valid : (d : Design) (a : IsDesignOf job c d) (i : ℕ) → i < length job.stimuli → (reading (ports_of job.mode a) (c.files (path_at job.stimuli i))).refusal ≡ None

-- no call failed
pub record IsFaultless {tells : Bool} (old new : Told tells) : Type 0 where
  pub no_fault : ¬ (Rose old.register.faults new.register.faults)
  pub no_loss : ¬ (Rose old.register.losses new.register.losses)

-- the run is done, or there was no memory
abbrev pub IsDoneOrMemory : Outcome → Type 0
IsDoneOrMemory (Done s) = Unit {0}
IsDoneOrMemory (Ordered c) = Unit {0}
IsDoneOrMemory Memory = Unit {0}
IsDoneOrMemory _ = ⊥
