-- A run whose parts were put together.
use Rattle.std.proofs.Common.{◌≡◌, ℕ, ◌<◌, ◌≤◌, Bool, List, length, map, arith, IsTrue, All, sym, subst}
use Rattle.vs_desk.specs.Desk.{Contents}
use Rattle.vs_design.specs.Expressions.{signal_length}
use Rattle.vs_design.specs.Designs.{Design}
use Rattle.vs_flat.specs.DesignOf.{design_of}
use Rattle.vs_design.specs.Footprints.{shown_signals}
use Rattle.vs_program.proofs.Lengths.{lengths_of_spans}
use Rattle.vs_accept.specs.Lent.{Acceptance}
use Rattle.vs_stim.specs.Header.{PortLists}
use Rattle.vs_waves.specs.Wave.{Wave, IsNewWave}
use Rattle.vs_rounds.specs.Lanes.{Simulation, AreOpened, wave_at, closed}
use Rattle.vs_rounds.specs.Ready.{IsReady, IsWaveReady, signal_lengths}
use Rattle.vs_job.specs.declared.job.Job.{Job}
use Rattle.vs_rounds.proofs.Settled.{new_lengths}
use Rattle.vs_setup.specs.Prepared.{runs}
use Rattle.vs_setup.proofs.Lanes.{HasEngine, program_is, bits_are, reading_is, has_given, begins_is}

-- a wave is new
new_wave : (share : Bool) (d : Design) (half : ℕ) (waves : List Wave) → All (IsNewWave share d half) waves → (i : ℕ) → i < length waves → IsNewWave share d half (wave_at waves i)
new_wave share d half waves all i h = all i closed h

-- the parts of a run
pub record HasParts {W : Type 0} (lane : W → ℕ → Bool) (lanes : ℕ) (tells : Bool) (job : Job) (old mid new : Contents) (a : Acceptance) (ports : PortLists) (m : Simulation W) : Type 0 where
  pub lanes_are : HasEngine lane lanes tells job old mid new a ports m.engine m.stimuli
  pub waves : length m.waves ≡ length m.stimuli
  pub new_waves : All (IsNewWave job.share (design_of a.flat) job.half) m.waves
  pub half : job.half ≤ 1000000

pub ready : {W : Type 0} (lane : W → ℕ → Bool) (lanes : ℕ) (tells : Bool) (job : Job) (old mid new : Contents) (a : Acceptance) (ports : PortLists) (m : Simulation W)
    → HasParts lane lanes tells job old mid new a ports m → IsReady 0 m
ready lane lanes tells job old mid new a ports m p = record {
  alike = record {
    lanes = p.lanes_are.behind.numbered;
    waves = p.waves;
    bits = bits_are lane lanes tells job old mid new a ports m.engine m.stimuli p.lanes_are;
  };
  waves = λ i h. each i (new_wave job.share (design_of a.flat) job.half m.waves p.new_waves i (subst (λ n. i < n) (sym p.waves) h));
}
  where
    signals : map signal_length (shown_signals (design_of a.flat)) ≡ signal_lengths m.engine.program
    signals = sym (lengths_of_spans (design_of a.flat) _ m.engine.program (program_is lane lanes tells job old mid new a ports m.engine m.stimuli p.lanes_are))

    small : {w : Wave} → IsNewWave job.share (design_of a.flat) job.half w → w.dump.half ≤ 1000000
    small w = subst (λ n. n ≤ 1000000) (sym w.half_is) p.half

    each : (i : ℕ) → IsNewWave job.share (design_of a.flat) job.half (wave_at m.waves i) → IsWaveReady 0 m.engine.program (wave_at m.waves i)
    each i w = record {
      half = small w;
      in_time = omega (arith, small w);
      lengths = new_lengths job.share (design_of a.flat) job.half m.engine.program (wave_at m.waves i) signals w;
      handed_out = w.left_is;
    }

-- Which lane is opened, whatever text of the design the desk told.
pub begins : {W : Type 0} (lane : W → ℕ → Bool) (lanes : ℕ) (tells : Bool) (job : Job) (old mid new : Contents) (a : Acceptance) (ports : PortLists) (m : Simulation W)
    → (p : HasParts lane lanes tells job old mid new a ports m) → IsTrue tells → AreOpened lane (runs p.lanes_are.behind.loaded) m new
begins lane lanes tells job old mid new a ports m p t = record {
  program = program_is lane lanes tells job old mid new a ports m.engine m.stimuli p.lanes_are;
  live = λ i h. (p.lanes_are.behind.opened.each i h).live;
  reading = reading_is tells job old mid new a ports m.stimuli p.lanes_are.behind t;
  read = has_given tells job old mid new a ports m.stimuli p.lanes_are.behind t;
  waves = λ i h. new_wave job.share (design_of a.flat) job.half m.waves p.new_waves i (subst (λ n. i < n) (sym p.waves) h);
  begins = begins_is lane lanes tells job old mid new a ports m.engine m.stimuli p.lanes_are;
}
