-- Where each lane of a check stands in a round, and what was found in it.
use Rattle.std.specs.Prelude.{◌≡◌, ℕ, ◌<◌, ◌≤◌, Bool, true, List, length, take, Option, None}
use Rattle.std.specs.List.{list_all}
use Rattle.vs_four.specs.Lengths.{last_or}
use Rattle.vs_net.specs.Network.{State}
use Rattle.vs_net.specs.Solution.{beginning, IsSolution}
use Rattle.vs_design.specs.Designs.{Design}
use Rattle.vs_design.specs.Networks.{network_of}
use Rattle.vs_desk.specs.Desk.{Contents}
use Rattle.vs_program.specs.declared.compiled.Span.{Span}
use Rattle.vs_program.specs.Program.{Program, spans}
use Rattle.vs_program.specs.Compiled.{IsProgramOf}
use Rattle.vs_engine.specs.Lanes.{Running, state}
use Rattle.vs_stim.specs.Header.{PortLists}
use Rattle.vs_stim.specs.Known.{Known, remaining}
use Rattle.vs_stim.specs.Reading.{reading}
use Rattle.vs_feed.specs.Lanes.{lane_at, AreLanes}
use Rattle.vs_feed.specs.Fed.{HaveBits}
use Rattle.vs_misses.specs.Missed.{Found}
use Rattle.vs_misses.specs.Watch.{Watch, AllFit, HasColumns, named, found_at}
use Rattle.vs_rounds.specs.Drives.{drive_of}
use Rattle.vs_rounds.specs.Lanes.{Run, reading_of, network, HasGiven, HaveNext, HaveVectors}
use Rattle.vs_rounds.specs.Missed.{output_spans, missed_in}

-- What contracts see of a `Checker`: what is known of each lane's stimulus, the engine of all lanes, and what was found of their outputs.
pub record Checking (W : Type 0) : Type 0 where
  pub stimuli : List Known
  pub engine : Running W
  pub misses : Watch

-- The stimuli and the engine are of the same data inputs, and what the stimuli want is of outputs that are watched.
pub record IsCheckable {W : Type 0} (m : Checking W) : Type 0 where
  pub lanes : AreLanes m.stimuli
  pub bits : HaveBits (length m.engine.program.inputs) m.stimuli
  pub inside : list_all (spans m.engine.program.bits) m.misses.outputs ≡ true
  pub columns : HasColumns m.misses (named m.stimuli)
  pub fit : AllFit m.misses.outputs m.stimuli

-- The parts of a check that is about to begin: stimuli of the same lanes, a program of the design whose data inputs have as many bits as each vector, and
-- the bits of outputs.
pub record AreCheckParts (d : Design) (clocks : List ℕ) (stimuli : List Known) (p : Program) (outputs : List Span) : Type 0 where
  pub program : IsProgramOf d clocks p
  pub lanes : AreLanes stimuli
  pub bits : HaveBits (length p.inputs) stimuli
  pub inside : list_all (spans p.bits) outputs ≡ true

-- Before round k there was found in a lane what is missed of the first k vectors that its text gives, all of them where it gives fewer, by the one solution
-- on these.
pub record IsFound (d : Design) (clocks : List ℕ) (ports : PortLists) (text : List ℕ) (k : ℕ) (found : Option Found) : Type 0 where
  -- the values at the end of each slot
  pub ends : List State
  pub solution : IsSolution (network_of d clocks) (beginning (network_of d clocks)) (drive_of d clocks (take k (reading ports text).vectors)) ends
  pub found_is : found ≡ missed_in d ports text k ends

-- Before round k: what was found in lane i, and the engine's values to go on with. Those in a lane that has ended no longer matter.
pub record IsFoundAt (run : Run) (i k : ℕ) (found : Option Found) (now : State) : Type 0 where
  pub given : IsFound run.design run.clocks run.ports (run.texts i) k found
  pub now_is : k ≤ length (reading_of run i).vectors → now ≡ last_or (beginning (network run)) given.ends

-- what was found in each lane before round k, where `lane` reads a lane of a word
pub record AreFoundAt {W : Type 0} (lane : W → ℕ → Bool) (run : Run) (k : ℕ) (m : Checking W) : Type 0 where
  pub each : (i : ℕ) → i < length m.stimuli → IsFoundAt run i k (found_at m.misses.found i) (state lane m.engine i)

-- All lanes stand before round k of a check, whose vectors weren't read.
pub record AreFoundBefore {W : Type 0} (lane : W → ℕ → Bool) (run : Run) (k : ℕ) (m : Checking W) (c : Contents) : Type 0 where
  pub program : IsProgramOf run.design run.clocks m.engine.program
  pub outputs : m.misses.outputs ≡ output_spans run.design run.ports.outputs
  pub next : HaveNext run k m.stimuli c
  pub found : AreFoundAt lane run k m

-- All lanes stand in round k of a check, whose vectors were read.
pub record AreFoundIn {W : Type 0} (lane : W → ℕ → Bool) (run : Run) (k : ℕ) (m : Checking W) (c : Contents) : Type 0 where
  pub program : IsProgramOf run.design run.clocks m.engine.program
  pub outputs : m.misses.outputs ≡ output_spans run.design run.ports.outputs
  pub read : HaveVectors run k m.stimuli c
  pub found : AreFoundAt lane run k m

-- The stimuli were opened, the outputs of the design are watched and nothing was found, and the engine has in every lane the values before slot 0.
pub record AreWatched {W : Type 0} (lane : W → ℕ → Bool) (run : Run) (m : Checking W) (c : Contents) : Type 0 where
  pub program : IsProgramOf run.design run.clocks m.engine.program
  pub outputs : m.misses.outputs ≡ output_spans run.design run.ports.outputs
  pub live : (i : ℕ) → i < length m.stimuli → (lane_at m.stimuli i).live ≡ true
  pub reading : (i : ℕ) → i < length m.stimuli → reading_of run i ≡ remaining (lane_at m.stimuli i) c
  pub read : (i : ℕ) → i < length m.stimuli → HasGiven run i 0 (lane_at m.stimuli i) c
  pub none : (i : ℕ) → i < length m.stimuli → found_at m.misses.found i ≡ None
  pub begins : (i : ℕ) → i < length m.stimuli → state lane m.engine i ≡ beginning (network run)
