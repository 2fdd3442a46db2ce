-- Where each lane stands in a round.
use Rattle.std.specs.Prelude.{◌≡◌, ℕ, suc, ◌<◌, ◌≤◌, Bool, true, false, not, List, [], length, drop, slice_index_or, None}
use Rattle.vs_four.specs.Lengths.{last_or}
use Rattle.vs_net.specs.Network.{State, Network}
use Rattle.vs_net.specs.Solution.{beginning}
use Rattle.vs_design.specs.Designs.{Design}
use Rattle.vs_design.specs.Networks.{network_of}
use Rattle.vs_desk.specs.Desk.{Contents}
use Rattle.vs_program.specs.Compiled.{IsProgramOf}
use Rattle.vs_engine.specs.Lanes.{Running, state}
use Rattle.vs_stim.specs.Header.{PortLists}
use Rattle.vs_stim.specs.Vectors.{Entry}
use Rattle.vs_stim.specs.Known.{Known, last_entry, remaining, IsReadBy}
use Rattle.vs_stim.specs.Reading.{Reading, reading, with_vector}
use Rattle.vs_feed.specs.Lanes.{lane_at}
use Rattle.vs_feed.specs.Reading.{AreTaken}
use Rattle.vs_vcd.specs.Scopes.{head_text}
use Rattle.vs_vcd.specs.Texts.{shown_numbers, values_of}
use Rattle.vs_vcd.specs.Shared.{coded, led, led_places}
use Rattle.vs_waves.specs.Wave.{Wave, IsNewWave}
use Rattle.vs_waves.specs.Puts.{wave_place}
use Rattle.vs_rounds.specs.Given.{has_ended, IsGiven}

-- What is run: a design with the bits of its clocks, their half-period, the data inputs and the outputs, and the text of each lane's stimulus; and whether the waveforms have one code for each class of signals that ports join.
pub record Run : Type 0 where
  pub share : Bool
  pub design : Design
  pub clocks : List ℕ
  pub half : ℕ
  pub ports : PortLists
  pub texts : ℕ → List ℕ

abbrev pub network : Run → Network
network run = network_of run.design run.clocks

-- what the text of lane i gives
abbrev pub reading_of : Run → ℕ → Reading
reading_of run i = reading run.ports (run.texts i)

-- What contracts see of a `Driven`: what is known of each lane's stimulus, and the engine of all lanes.
pub record Driving (W : Type 0) : Type 0 where
  pub stimuli : List Known
  pub engine : Running W

-- What contracts see of a `Machine`: what is known of each lane's stimulus, each lane's wave, and the engine of all lanes.
pub record Simulation (W : Type 0) : Type 0 where
  pub stimuli : List Known
  pub waves : List Wave
  pub engine : Running W

-- a wave of which nothing is left to put
abbrev pub closed : Wave
closed = record { dump = record { head = []; numbers = []; half = 0; last = []; left = [] }; places = []; is_open = false }

-- the wave of lane i; past the last lane, a closed one
abbrev pub wave_at : List Wave → ℕ → Wave
wave_at waves i = slice_index_or waves i closed

-- what a text gives behind its first k vectors
abbrev pub behind : ℕ → Reading → Reading
behind k r = record { vectors = drop k r.vectors; wanted = drop k r.wanted; refusal = r.refusal }

-- The vector of round k was read, and what outputs are wanted to have with it, and this is left of the text; or else the text has ended, in this round or
-- an earlier one.
pub record IsRead (r : Reading) (k : ℕ) (live : Bool) (entry : Entry) (rest : Reading) : Type 0 where
  pub entry_is : live ≡ true → behind k r ≡ with_vector entry rest
  pub unrefused : live ≡ false → r.refusal ≡ None
  pub ended : live ≡ false → length r.vectors ≤ k

-- The vector of round k is the next that is read of what is left of the text; or else the text has ended, in an earlier round.
pub record IsUnread (r : Reading) (k : ℕ) (live : Bool) (rest : Reading) : Type 0 where
  pub rest_is : live ≡ true → rest ≡ behind k r
  pub within : live ≡ true → k ≤ length r.vectors
  pub unrefused : live ≡ false → r.refusal ≡ None
  pub ended : live ≡ false → length r.vectors < k

-- Before the puts of round k: what the lane has got, and what is kept of its wave to go on. The engine's values in a lane that has
-- ended no longer matter.
pub record IsWaveAt (run : Run) (r : Reading) (k : ℕ) (w : Wave) (now : State) (text : List ℕ) : Type 0 where
  pub given : IsGiven run.share run.design run.clocks run.half r k text
  pub head_is : w.dump.head ≡ head_text (coded run.share run.design)
  pub numbers_are : w.dump.numbers ≡ shown_numbers (led run.share run.design)
  pub places_are : w.places ≡ led_places run.share run.design
  pub half_is : w.dump.half ≡ run.half
  pub handed_out : w.dump.left ≡ []
  pub is_open : w.is_open ≡ not (has_ended r k)
  pub now_is : k ≤ length r.vectors → now ≡ last_or (beginning (network run)) given.ends
  pub last_is : 0 < k → k ≤ length r.vectors → w.dump.last ≡ values_of (led run.share run.design) now

-- The stimulus of lane i has given this many vectors, and its text was read up to there.
pub record HasGiven (run : Run) (i count : ℕ) (s : Known) (c : Contents) : Type 0 where
  pub count_is : s.count ≡ count
  pub read : IsReadBy run.ports (run.texts i) s c

-- The vector of round k is the next that is read of each lane that hasn't ended, and nothing is left of the texts of the others, where the
-- desk has these contents.
pub record HaveNext (run : Run) (k : ℕ) (stimuli : List Known) (c : Contents) : Type 0 where
  pub each : (i : ℕ) → i < length stimuli → IsUnread (reading_of run i) k (lane_at stimuli i).live (remaining (lane_at stimuli i) c)
  pub read : (i : ℕ) → i < length stimuli → (lane_at stimuli i).live ≡ true → HasGiven run i k (lane_at stimuli i) c
  pub taken : AreTaken c stimuli

-- the vector of round k was read of each lane that hasn't ended, and nothing is left of the texts of the others
pub record HaveVectors (run : Run) (k : ℕ) (stimuli : List Known) (c : Contents) : Type 0 where
  pub each : (i : ℕ) → i < length stimuli → IsRead (reading_of run i) k (lane_at stimuli i).live (last_entry (lane_at stimuli i)) (remaining (lane_at stimuli i) c)
  pub read : (i : ℕ) → i < length stimuli → (lane_at stimuli i).live ≡ true → HasGiven run i (suc k) (lane_at stimuli i) c
  pub taken : AreTaken c stimuli

-- what each lane has got before the puts of round k, and what is kept of its wave, where `lane` reads a lane of a word
pub record AreWavesAt {W : Type 0} (lane : W → ℕ → Bool) (run : Run) (k : ℕ) (m : Simulation W) (c : Contents) : Type 0 where
  pub each : (i : ℕ) → i < length m.stimuli → IsWaveAt run (reading_of run i) k (wave_at m.waves i) (state lane m.engine i) (c.put (wave_place i))

-- All lanes stand before round k, whose vectors weren't read.
pub record AreBeforeRound {W : Type 0} (lane : W → ℕ → Bool) (run : Run) (k : ℕ) (m : Simulation W) (c : Contents) : Type 0 where
  pub program : IsProgramOf run.design run.clocks m.engine.program
  pub next : HaveNext run k m.stimuli c
  pub waves : AreWavesAt lane run k m c

-- All lanes stand in round k, whose vectors were read.
pub record AreInRound {W : Type 0} (lane : W → ℕ → Bool) (run : Run) (k : ℕ) (m : Simulation W) (c : Contents) : Type 0 where
  pub program : IsProgramOf run.design run.clocks m.engine.program
  pub read : HaveVectors run k m.stimuli c
  pub waves : AreWavesAt lane run k m c

-- The stimuli were opened, the waves are new, and the engine has in every lane the values before slot 0.
pub record AreOpened {W : Type 0} (lane : W → ℕ → Bool) (run : Run) (m : Simulation W) (c : Contents) : Type 0 where
  pub program : IsProgramOf run.design run.clocks m.engine.program
  pub live : (i : ℕ) → i < length m.stimuli → (lane_at m.stimuli i).live ≡ true
  pub reading : (i : ℕ) → i < length m.stimuli → reading_of run i ≡ remaining (lane_at m.stimuli i) c
  pub read : (i : ℕ) → i < length m.stimuli → HasGiven run i 0 (lane_at m.stimuli i) c
  pub waves : (i : ℕ) → i < length m.stimuli → IsNewWave run.share run.design run.half (wave_at m.waves i)
  pub begins : (i : ℕ) → i < length m.stimuli → state lane m.engine i ≡ beginning (network run)

-- Once nothing more was taken, and nothing was put at the places of the waves, all lanes stand in round 0.
pub record AreBegun {W : Type 0} (lane : W → ℕ → Bool) (run : Run) (m : Simulation W) (c : Contents) : Type 0 where
  pub begun : (new : Contents) → new.left ≡ c.left → ((i : ℕ) → i < length m.stimuli → new.put (wave_place i) ≡ []) → AreInRound lane run 0 m new
