-- Lanes that are about to begin.
use Rattle.std.proofs.Common.{◌≡◌, ◌≤◌, ◌<◌, ◌∙◌, ℕ, Bool, true, false, not, List, [], length, sym, ap, subst, arith}
use Rattle.vs_desk.specs.Desk.{Contents}
use Rattle.vs_net.specs.Network.{State}
use Rattle.vs_net.specs.Solution.{beginning}
use Rattle.vs_engine.specs.Lanes.{Running, state}
use Rattle.vs_design.specs.Designs.{Design}
use Rattle.vs_program.specs.Compiled.{IsProgramOf}
use Rattle.vs_program.proofs.Lengths.{lengths_of_spans}
use Rattle.vs_stim.specs.Known.{Known, last_entry, remaining}
use Rattle.vs_stim.specs.Reading.{Reading}
use Rattle.vs_feed.specs.Lanes.{lane_at}
use Rattle.vs_waves.specs.Wave.{Wave, IsNewWave}
use Rattle.vs_waves.specs.Puts.{wave_place}
use Rattle.vs_rounds.specs.Lanes.{Run, reading_of, network, Simulation, wave_at, closed, IsRead, IsUnread, IsWaveAt, HaveNext, HaveVectors, AreOpened, AreBegun}
use Rattle.vs_rounds.specs.Ready.{AreParts, IsReady}
use Rattle.vs_rounds.proofs.Settled.{in_time, new_lengths}
use Rattle.vs_rounds.proofs.Waves.{not_ended}
use Rattle.vs_rounds.proofs.Rounded.{remaining_left, given_left, still_taken}

pub unread : (r : Reading) (live : Bool) (rest : Reading) → live ≡ true → r ≡ rest → IsUnread r 0 live rest
unread r true rest is_live is = record { rest_is = λ _. sym is; within = λ _. omega arith; unrefused = λ e. absurd (cc); ended = λ e. absurd (cc) }
unread r false rest is_live is = absurd (cc)

pub alive : (b : Bool) → b ≡ true → b ≡ false → ⊥
alive b is_true is_false = cc

pub opened_next : {W : Type 0} (lane : W → ℕ → Bool) (run : Run) (m : Simulation W) (c : Contents) → AreOpened lane run m c → HaveNext run 0 m.stimuli c
opened_next lane run m c h = record { each = λ i lt. unread (reading_of run i) (lane_at m.stimuli i).live (remaining (lane_at m.stimuli i) c) (h.live i lt) (h.reading i lt); read = λ i lt _. h.read i lt; taken = record { each = λ i lt dead. absurd (alive (lane_at m.stimuli i).live (h.live i lt) dead) } }

new_wave : (run : Run) (r : Reading) (w : Wave) (now : State) (text : List ℕ) → IsNewWave run.share run.design run.half w → now ≡ beginning (network run) → text ≡ [] → IsWaveAt run r 0 w now text
new_wave run r w now text h begins empty = record {
  given = record { ends = []; solution = tt; text_is = empty };
  head_is = h.head_is;
  numbers_are = h.numbers_are;
  places_are = h.places_are;
  half_is = h.half_is;
  handed_out = h.left_is;
  is_open = h.opened ∙ sym (ap not (not_ended r 0 (omega arith)));
  now_is = λ _. begins;
  last_is = λ some _. absurd (omega arith);
}

pub opened_begun : {W : Type 0} (lane : W → ℕ → Bool) (run : Run) (m new : Simulation W) (before after : Contents) → AreOpened lane run m before
    → length new.stimuli ≡ length m.stimuli → new.waves ≡ m.waves → new.engine ≡ m.engine → HaveVectors run 0 new.stimuli after → AreBegun lane run new after
opened_begun lane run m new before after h long waves engine read = record {
  begun = λ c left empty. record {
    program = subst (λ (e : Running _). IsProgramOf run.design run.clocks e.program) (sym engine) h.program;
    read = record {
      each = λ i lt. subst (λ (rest : Reading). IsRead (reading_of run i) 0 (lane_at new.stimuli i).live (last_entry (lane_at new.stimuli i)) rest) (sym (remaining_left (lane_at new.stimuli i) after c left)) (read.each i lt);
      read = λ i lt live. given_left run i 1 (lane_at new.stimuli i) after c left (read.read i lt live);
      taken = still_taken new.stimuli after c left read.taken;
    };
    waves = record {
      each = λ i lt.
          let within : i < length m.stimuli = omega (arith, long) in
          new_wave run (reading_of run i) (wave_at new.waves i) (state lane new.engine i) (c.put (wave_place i))
          (subst (λ (ws : List Wave). IsNewWave run.share run.design run.half (wave_at ws i)) (sym waves) (h.waves i within))
          (ap (λ (e : Running _). state lane e i) engine ∙ h.begins i within)
          (empty i lt);
    };
  };
}

-- the first round can be run
pub parts_ready : {W : Type 0} (share : Bool) (d : Design) (clocks : List ℕ) (half : ℕ) (stimuli : List Known) (waves : List Wave) (engine : Running W) → AreParts share d clocks half stimuli waves engine.program
    → IsReady {W = W} 0 (record { stimuli = stimuli; waves = waves; engine = engine })
parts_ready share d clocks half stimuli waves engine h = record {
  alike = record { lanes = h.lanes; waves = h.count; bits = h.bits };
  waves = λ i lt.
      let w = h.new i closed (omega (arith, h.count)) in
      let small : (wave_at waves i).dump.half ≤ 1000000 = omega (arith, w.half_is, h.small) in
      record { half = small; in_time = in_time 0 (wave_at waves i).dump.half (omega arith) small; lengths = new_lengths share d half engine.program (wave_at waves i) (sym (lengths_of_spans d clocks engine.program h.program)) w; handed_out = w.left_is };
}
