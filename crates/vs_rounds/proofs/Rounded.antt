-- The lanes after a round was put.
use Rattle.std.proofs.Common.{◌≡◌, ◌<◌, ◌≤◌, ◌∙◌, ℕ, suc, Bool, true, false, List, [], ◌∷◌, ◌++◌, length, map, sym, ap, refl, subst, arith, None, Some}
use Rattle.std.specs.Prelude.{slice_get}
use Rattle.std.proofs.lemmas.Option.{slice_get_within, slice_get-get_or, get_or_from_slice_get, same_Some}
use Rattle.vs_four.specs.Logic.{BitList}
use Rattle.vs_desk.specs.Desk.{Contents}
use Rattle.vs_net.specs.Network.{State}
use Rattle.vs_net.specs.Queue.{Fall, Rise}
use Rattle.vs_net.specs.Solution.{IsSlotEnd}
use Rattle.vs_design.specs.Expressions.{Signal}
use Rattle.vs_design.specs.Designs.{Design}
use Rattle.vs_design.specs.Values.{read, bits_of_signal}
use Rattle.vs_program.specs.declared.compiled.Span.{Span}
use Rattle.vs_program.specs.Program.{Program}
use Rattle.vs_program.specs.Compiled.{IsProgramOf, span_of, shown_signals, span_bits}
use Rattle.vs_engine.specs.Lanes.{state}
use Rattle.vs_stim.specs.Lines.{lines, all_lines}
use Rattle.vs_stim.specs.Known.{Known, last_entry, place_of, remaining, IsReadTo}
use Rattle.vs_stim.specs.Vectors.{Entry}
use Rattle.vs_stim.specs.Reading.{Reading, limits, read_vectors}
use Rattle.vs_feed.specs.Lanes.{lane_at, ended}
use Rattle.vs_feed.specs.Reading.{AreTaken}
use Rattle.vs_vcd.specs.Texts.{values_of}
use Rattle.vs_waves.specs.Wave.{Wave}
use Rattle.vs_waves.specs.Puts.{wave_place, PutsLanes, PutsUpTo}
use Rattle.vs_waves.specs.Rounds.{begun, after_put, round_text, lane_values, EachGoesOn, CanPut}
use Rattle.vs_rounds.specs.Drives.{vector_state}
use Rattle.vs_rounds.specs.Given.{IsGiven}
use Rattle.vs_rounds.specs.Lanes.{Run, reading_of, network, Simulation, wave_at, closed, IsRead, IsUnread, IsWaveAt, HasGiven, AreBeforeRound, AreInRound}
use Rattle.vs_rounds.specs.Ready.{AreAlike, IsReady, IsWaveReady, IsNoted, IsWaveNoted, Settles, signal_values}
use Rattle.vs_rounds.specs.Stops.{IsWriteStop}
use Rattle.vs_rounds.proofs.Readings.{read_on}
use Rattle.vs_rounds.proofs.Waves.{wave_goes_on, noted_ends}
use Rattle.vs_rounds.proofs.Rereads.{unrefused_read}
use Rattle.vs_rounds.proofs.Settled.{at-map, values_are, in_time, picked_lengths, picked_within}
use Rattle.vs_rounds.proofs.Limited.{has_vector}

-- the values of the signals of a compiled design
values_of_spans : (s : State) (signals : List Signal) → map (λ (x : Span). read s (span_bits x)) (map span_of signals) ≡ map (λ (x : Signal). read s (bits_of_signal x)) signals
values_of_spans s [] = refl
values_of_spans s (x ∷ xs) = ap (λ (vs : List BitList). read s (bits_of_signal x) ∷ vs) (values_of_spans s xs)

signal_values_are : (d : Design) (clocks : List ℕ) (p : Program) (s : State) → IsProgramOf d clocks p → signal_values p s ≡ values_of d s
signal_values_are d clocks p s h = ap (map (λ (x : Span). read s (span_bits x))) h.signals ∙ values_of_spans s (shown_signals d)

-- what is left of a text depends on what is left on the desk alone
pub remaining_left : (s : Known) (c new : Contents) → new.left ≡ c.left → remaining s new ≡ remaining s c
remaining_left s c new same = ap (λ (left : ℕ → List ℕ). read_vectors limits s.columns s.at s.count (all_lines (lines (s.pending ++ left (place_of s.lane))))) same

-- and so does how far it was read
pub given_left : (run : Run) (i count : ℕ) (s : Known) (c new : Contents) → new.left ≡ c.left → HasGiven run i count s c → HasGiven run i count s new
given_left run i count s c new same h = record {
  count_is = h.count_is;
  read = subst (λ (left : ℕ → List ℕ). IsReadTo run.ports (run.texts i) s.count s.columns s.line s.at (s.pending ++ left (place_of s.lane))) (sym same) h.read;
}

-- nor does it matter to what is left of the texts that have ended
pub still_taken : (stimuli : List Known) (c new : Contents) → new.left ≡ c.left → AreTaken c stimuli → AreTaken new stimuli
still_taken stimuli c new same h = record {
  each = λ i lt dead. let k = lane_at stimuli i in ap (λ (left : ℕ → List ℕ). k.pending ++ left (place_of k.lane)) same ∙ h.each i lt dead;
}

-- a lane's round, whether it is live or has ended
lane_done : (run : Run) (r : Reading) (k : ℕ) (w : Wave) (now mid next : State) (live : Bool) (entry : Entry) (rest : Reading) (text : List ℕ) → (r.refusal ≡ None → 0 < length r.vectors)
    → IsWaveAt run r k w now text → IsRead r k live entry rest
    → (live ≡ true → IsSlotEnd (network run) now (Fall (vector_state run.design run.clocks entry.values)) mid) → (live ≡ true → IsSlotEnd (network run) mid Rise next)
    → let noted = begun k live (values_of run.design mid) w in
    IsWaveAt run r (suc k) (after_put live (values_of run.design next) noted) next (text ++ round_text k live (values_of run.design next) noted)
lane_done run r k w now mid next true entry rest text some h read falls rises = wave_goes_on run r k w now mid next entry rest text h read (falls refl) (rises refl)
lane_done run r k w now mid next false entry rest text some h read falls rises = noted_ends run r k w now next entry rest text (values_of run.design mid) (values_of run.design next) some h read

-- What is known of a round before its puts.
pub record IsRun {W : Type 0} (lane : W → ℕ → Bool) (run : Run) (k : ℕ) (old m : Simulation W) (c : Contents) : Type 0 where
  pub alike : AreAlike m
  pub stimuli : m.stimuli ≡ old.stimuli
  pub program : m.engine.program ≡ old.engine.program
  pub began : AreInRound lane run k old c
  pub settled : (i : ℕ) → i < length old.stimuli → Settles lane run.design run.clocks k i old m

-- lane i, where the round's text was put
pub lane_put : {W : Type 0} (lane : W → ℕ → Bool) (run : Run) (k : ℕ) (old m : Simulation W) (c : Contents) (i : ℕ) (text : List ℕ) → IsRun lane run k old m c → i < length old.stimuli
    → let l = (lane_at old.stimuli i).live in
    let values = lane_values lane m.engine i in
    text ≡ c.put (wave_place i) ++ round_text k l values (wave_at m.waves i)
    → IsWaveAt run (reading_of run i) (suc k) (after_put l values (wave_at m.waves i)) (state lane m.engine i) text
lane_put lane run k old m c i text h within text_is =
    let d = run.design in
    let l = (lane_at old.stimuli i).live in
    let s = h.settled i within in
    let next = state lane m.engine i in
    let values = lane_values lane m.engine i in
    let done = lane_done run (reading_of run i) k (wave_at old.waves i) (state lane old.engine i) s.between next l (last_entry (lane_at old.stimuli i)) (remaining (lane_at old.stimuli i) c) (c.put (wave_place i))
    (has_vector run.ports (run.texts i)) (h.began.waves.each i within) (h.began.read.each i within) s.falls s.rises in
    let values_next : values_of d next ≡ values = sym (values_are lane m.engine old.engine.program i h.program ∙ signal_values_are d run.clocks old.engine.program next h.began.program) in
    let noted : begun k l (values_of d s.between) (wave_at old.waves i) ≡ wave_at m.waves i =
    ap (λ (vs : List BitList). begun k l vs (wave_at old.waves i)) (sym (signal_values_are d run.clocks old.engine.program s.between h.began.program)) ∙ sym s.noted in
    let P = λ (vs : List BitList) (w : Wave) (t : List ℕ). IsWaveAt run (reading_of run i) (suc k) (after_put l vs w) next t in
    subst (P values (wave_at m.waves i)) (sym text_is)
    (subst (λ (w : Wave). P values w (c.put (wave_place i) ++ round_text k l values w)) noted
    (subst (λ (vs : List BitList). P vs (begun k l (values_of d s.between) (wave_at old.waves i)) (c.put (wave_place i) ++ round_text k l vs (begun k l (values_of d s.between) (wave_at old.waves i)))) values_next done))

live_at : {W : Type 0} (m : Simulation W) (live : List Bool) (i : ℕ) → live ≡ map (λ s. s.live) m.stimuli → i < length m.stimuli → slice_get live i ≡ Some (lane_at m.stimuli i).live
live_at m live i lives within = ap (λ (xs : List Bool). slice_get xs i) lives ∙ at-map (λ s. s.live) m.stimuli i ended within

pub round_done : {W : Type 0} (lane : W → ℕ → Bool) (run : Run) (k : ℕ) (old m : Simulation W) (c new : Contents) (live : List Bool) (waves : List Wave) → IsRun lane run k old m c
    → live ≡ map (λ s. s.live) m.stimuli → EachGoesOn (λ i l w. after_put l (lane_values lane m.engine i) w) live m.waves waves
    → PutsLanes k (lane_values lane m.engine) live m.waves (length m.waves) c new
    → AreBeforeRound {W = W} lane run (suc k) (record { stimuli = m.stimuli; waves = waves; engine = m.engine }) new
round_done lane run k old m c new live waves h lives gone puts = record {
  program = subst (λ (p : Program). IsProgramOf run.design run.clocks p) (sym h.program) h.began.program;
  next = record {
    each = λ i lt.
        subst (λ (ks : List Known). IsUnread (reading_of run i) (suc k) (lane_at ks i).live (remaining (lane_at ks i) new)) (sym h.stimuli)
        (subst (λ (r : Reading). IsUnread (reading_of run i) (suc k) (lane_at old.stimuli i).live r) (sym (remaining_left (lane_at old.stimuli i) c new puts.left))
        (read_on (h.began.read.each i (omega (arith, ap length h.stimuli)))));
    read = λ i lt.
        subst (λ (ks : List Known). (lane_at ks i).live ≡ true → HasGiven run i (suc k) (lane_at ks i) new) (sym h.stimuli) (λ live.
        given_left run i (suc k) (lane_at old.stimuli i) c new puts.left (h.began.read.read i (omega (arith, ap length h.stimuli)) live));
    taken = still_taken m.stimuli c new puts.left (subst (λ (ks : List Known). AreTaken c ks) (sym h.stimuli) h.began.read.taken);
  };
  waves = record {
    each = λ i lt.
        let within : i < length old.stimuli = omega (arith, ap length h.stimuli) in
        let in_waves : i < length m.waves = omega (arith, h.alike.waves) in
        let is_live = live_at m live i lives lt in
        let is_wave = slice_get-get_or m.waves i closed in_waves in
        let same = ap (λ (ks : List Known). (lane_at ks i).live) h.stimuli in
        let wave_is = get_or_from_slice_get waves i _ closed (gone.each i (lane_at m.stimuli i).live (wave_at m.waves i) is_live is_wave) in
        let text_is = puts.lanes i (lane_at m.stimuli i).live (wave_at m.waves i) in_waves is_live is_wave in
        let values = lane_values lane m.engine i in
        subst (λ (w : Wave). IsWaveAt run (reading_of run i) (suc k) w (state lane m.engine i) (new.put (wave_place i))) (sym wave_is)
        (subst (λ (b : Bool). IsWaveAt run (reading_of run i) (suc k) (after_put b values (wave_at m.waves i)) (state lane m.engine i) (new.put (wave_place i))) (sym same)
        (lane_put lane run k old m c i (new.put (wave_place i)) h within
        (text_is ∙ ap (λ (b : Bool). c.put (wave_place i) ++ round_text k b values (wave_at m.waves i)) same)));
  };
}

-- the round of each wave can be put
pub put_ready : {W : Type 0} (lane : W → ℕ → Bool) (k : ℕ) (m : Simulation W) (live : List Bool) → k ≤ 16777216 → IsNoted m → live ≡ map (λ s. s.live) m.stimuli
    → (i : ℕ) (l : Bool) (w : Wave) → slice_get live i ≡ Some l → slice_get m.waves i ≡ Some w → CanPut k l (lane_values lane m.engine i) w
put_ready lane k m live few h lives i l w is_live is_wave =
    let in_waves = slice_get_within m.waves i w is_wave in
    let within : i < length m.stimuli = omega (arith, h.alike.waves) in
    let live_is : (lane_at m.stimuli i).live ≡ l = same_Some _ _ (sym (live_at m live i lives within) ∙ is_live) in
    let wave_is : wave_at m.waves i ≡ w = get_or_from_slice_get m.waves i w closed is_wave in
    let noted : IsWaveNoted m.engine.program l w = subst (λ (v : Wave). IsWaveNoted m.engine.program l v) wave_is (subst (λ (b : Bool). IsWaveNoted m.engine.program b (wave_at m.waves i)) live_is (h.waves i within)) in
    record {
      within = picked_within m.engine.program (state lane m.engine i) w noted.lengths;
      lengths = picked_lengths m.engine.program (state lane m.engine i) w ∙ sym noted.lengths.lengths;
      handed_out = λ e _. noted.handed_out e;
      in_time = in_time k w.dump.half (omega (arith, few)) noted.half;
    }

-- a wave that was put is ready for the next round
wave_ready : (k : ℕ) (p : Program) (live : Bool) (s : State) (w : Wave) → k ≤ 16777217 → IsWaveNoted p live w → IsWaveReady k p (after_put live (signal_values p s) w)
wave_ready k p true s w few h = record { half = h.half; in_time = in_time k w.dump.half few h.half; lengths = record { within = h.lengths.within; lengths = picked_lengths p s w }; handed_out = refl }
wave_ready k p false s w few h = record { half = h.half; in_time = in_time k w.dump.half few h.half; lengths = record { within = h.lengths.within; lengths = picked_lengths p s w }; handed_out = refl }

pub ready_put : {W : Type 0} (lane : W → ℕ → Bool) (k : ℕ) (m : Simulation W) (live : List Bool) (waves : List Wave) → k ≤ 16777217 → IsNoted m → live ≡ map (λ s. s.live) m.stimuli
    → EachGoesOn (λ i l w. after_put l (lane_values lane m.engine i) w) live m.waves waves
    → IsReady {W = W} k (record { stimuli = m.stimuli; waves = waves; engine = m.engine })
ready_put lane k m live waves few h lives gone = record {
  alike = record { lanes = h.alike.lanes; waves = gone.count ∙ h.alike.waves; bits = h.alike.bits };
  waves = λ i lt.
      let in_waves : i < length m.waves = omega (arith, h.alike.waves) in
      let wave_is = get_or_from_slice_get waves i _ closed (gone.each i (lane_at m.stimuli i).live (wave_at m.waves i) (live_at m live i lives lt) (slice_get-get_or m.waves i closed in_waves)) in
      subst (λ (w : Wave). IsWaveReady k m.engine.program w) (sym wave_is)
      (wave_ready k m.engine.program (lane_at m.stimuli i).live (state lane m.engine i) (wave_at m.waves i) few (h.waves i lt));
}

-- a put stopped the round
pub write_stop : {W : Type 0} (lane : W → ℕ → Bool) (run : Run) (k : ℕ) (old m : Simulation W) (c new : Contents) (live : List Bool) (l : ℕ) → IsRun lane run k old m c
    → live ≡ map (λ s. s.live) m.stimuli → l < length m.waves
    → PutsUpTo k (lane_values lane m.engine) live m.waves l c new
    → IsWriteStop run (length old.stimuli) k l new
write_stop lane run k old m c new live l h lives is_lane puts =
    let within_of = λ (i : ℕ) (lt : i < length m.waves). let w : i < length old.stimuli = omega (arith, ap length h.stimuli, h.alike.waves) in w in
    let same = λ (i : ℕ). ap (λ (ks : List Known). (lane_at ks i).live) h.stimuli in
    let is_live = λ (i : ℕ) (lt : i < length m.waves). let e : slice_get live i ≡ Some (lane_at old.stimuli i).live = live_at m live i lives (omega (arith, h.alike.waves)) ∙ ap Some (same i) in e in
    let part = puts.part (lane_at old.stimuli l).live (wave_at m.waves l) (is_live l is_lane) (slice_get-get_or m.waves l closed is_lane) in
    let more = round_text k (lane_at old.stimuli l).live (lane_values lane m.engine l) (wave_at m.waves l) in
    let whole = lane_put lane run k old m c l (c.put (wave_place l) ++ more) h (within_of l is_lane) refl in
    record {
      unrefused = record { each = λ i _ lt. unrefused_read (lane_at old.stimuli i).live (h.began.read.each i lt) };
      before = record {
        each = λ i _ lt.
            let in_waves : i < length m.waves = omega arith in
            let w = lane_put lane run k old m c i (new.put (wave_place i)) h (within_of i in_waves) (puts.lanes i (lane_at old.stimuli i).live (wave_at m.waves i) lt (is_live i in_waves) (slice_get-get_or m.waves i closed in_waves)) in
            w.given;
      };
      part = record {
        before = c.put (wave_place l);
        more = more;
        count = part.0;
        given = (h.began.waves.each l (within_of l is_lane)).given;
        given_next = whole.given;
        text_is = part.2;
      };
      behind = record {
        each = λ i gt lt.
            let kept = puts.others (wave_place i) (λ j le e. absurd (omega arith)) in
            subst (IsGiven run.share run.design run.clocks run.half (reading_of run i) k) (sym kept) (h.began.waves.each i lt).given;
      };
    }
