-- The lanes of a check, from round to round.
use Rattle.std.proofs.Common.{◌≡◌, ◌<◌, ◌≤◌, ◌∙◌, ℕ, suc, Bool, true, false, List, [], length, sym, ap, refl, subst, arith, None, inl, inr, ◌⊎◌, Option}
use Rattle.std.specs.List.{count_by, list_all}
use Rattle.vs_desk.specs.Desk.{Contents}
use Rattle.vs_net.specs.Network.{State}
use Rattle.vs_net.specs.Queue.{Fall, Rise}
use Rattle.vs_net.specs.Solution.{beginning, IsSlotEnd}
use Rattle.vs_design.specs.Designs.{Design}
use Rattle.vs_program.specs.declared.compiled.Span.{Span}
use Rattle.vs_program.specs.Program.{Program, spans}
use Rattle.vs_program.specs.Compiled.{IsProgramOf}
use Rattle.vs_engine.specs.Lanes.{Running, state}
use Rattle.vs_stim.specs.Known.{Known, last_entry, remaining}
use Rattle.vs_stim.specs.Laws.{LinesOfVectors}
use Rattle.vs_feed.specs.Lanes.{lane_at, AreLanes, OtherPlacesKept}
use Rattle.vs_feed.specs.Fed.{HaveBits}
use Rattle.vs_misses.specs.Missed.{Found, first_miss, on_line, found_now, found_behind}
use Rattle.vs_misses.specs.Watch.{Watch, AllFit, HasColumns, named, found_at}
use Rattle.vs_rounds.specs.declared.stop.Stop.{Stop}
use Rattle.vs_rounds.specs.Drives.{vector_state}
use Rattle.vs_rounds.specs.Lanes.{Run, reading_of, network, IsRead, HaveNext, HaveVectors}
use Rattle.vs_rounds.specs.Ready.{AreDriven}
use Rattle.vs_rounds.specs.Checked.{Checking, IsCheckable, AreCheckParts, IsFound, IsFoundAt, AreFoundBefore, AreFoundIn, AreWatched}
use Rattle.vs_rounds.specs.Stops.{ReadStops}
use Rattle.vs_rounds.specs.Verdicts.{AreChecked, IsCheckStop}
use Rattle.vs_rounds.proofs.Readings.{read_on}
use Rattle.vs_rounds.proofs.Rereads.{either}
use Rattle.vs_rounds.proofs.Settled.{none_live, not_live, length-map}
use Rattle.vs_rounds.proofs.Opened.{unread, alive}
use Rattle.vs_rounds.proofs.Found.{found_goes_on, found_ends, found_past}
use Rattle.vs_rounds.proofs.Missed.{nothing_found}
use Rattle.vs_rounds.proofs.Counting.{all_dead_before, all_dead_last}

-- two steps keep what each keeps
pub kept_on : {lanes here : ℕ} {a b c : Contents} → here ≡ lanes → OtherPlacesKept lanes a b → OtherPlacesKept here b c → OtherPlacesKept lanes a c
kept_on same f s = record {
  files = s.files ∙ f.files;
  put = s.put ∙ f.put;
  before = λ p lt. s.before p lt ∙ f.before p lt;
  behind = λ p le. s.behind p (omega (arith, same, le)) ∙ f.behind p le;
}

-- a check that is about to begin can be run
pub parts_checkable : {W : Type 0} (m : Checking W) (d : Design) (clocks : List ℕ) (stimuli : List Known) (engine : Running W) (outputs : List Span)
    → m.stimuli ≡ stimuli → m.engine ≡ engine → m.misses.outputs ≡ outputs → HasColumns m.misses (named m.stimuli) → AllFit outputs stimuli → AreCheckParts d clocks stimuli engine.program outputs → IsCheckable m
parts_checkable m d clocks stimuli engine outputs stimuli_are engine_is outputs_are columns fit h = record {
  lanes = subst AreLanes (sym stimuli_are) h.lanes;
  bits = subst (λ (e : Running _). HaveBits (length e.program.inputs) m.stimuli) (sym engine_is) (subst (HaveBits (length engine.program.inputs)) (sym stimuli_are) h.bits);
  inside = ap (list_all (spans m.engine.program.bits)) outputs_are ∙ ap (λ (e : Running _). list_all (spans e.program.bits) outputs) engine_is ∙ h.inside;
  columns = columns;
  fit = subst (λ (os : List Span). AllFit os m.stimuli) (sym outputs_are) (subst (AllFit outputs) (sym stimuli_are) fit);
}

-- so can one whose next vectors were read
pub checkable_on : {W : Type 0} (m new : Checking W) → new.engine ≡ m.engine → new.misses ≡ m.misses → AreDriven {W = W} (record { stimuli = new.stimuli; engine = new.engine })
    → named new.stimuli ≡ named m.stimuli → AllFit m.misses.outputs new.stimuli → IsCheckable m → IsCheckable new
checkable_on m new engine misses driven columns fit h = record {
  lanes = driven.lanes;
  bits = driven.bits;
  inside = ap (λ (w : Watch). list_all (spans new.engine.program.bits) w.outputs) misses ∙ ap (λ (e : Running _). list_all (spans e.program.bits) m.misses.outputs) engine ∙ h.inside;
  columns = subst (λ (w : Watch). HasColumns w (named new.stimuli)) (sym misses) (subst (HasColumns m.misses) (sym columns) h.columns);
  fit = subst (λ (w : Watch). AllFit w.outputs new.stimuli) (sym misses) fit;
}

-- and one whose round was run
pub checkable_round : {W : Type 0} (m new : Checking W) → new.stimuli ≡ m.stimuli → new.engine.program ≡ m.engine.program → new.misses.outputs ≡ m.misses.outputs → HasColumns new.misses (named new.stimuli)
    → IsCheckable m → IsCheckable new
checkable_round m new stimuli program outputs columns h = record {
  lanes = subst AreLanes (sym stimuli) h.lanes;
  bits = subst (λ (p : Program). HaveBits (length p.inputs) new.stimuli) (sym program) (subst (HaveBits (length m.engine.program.inputs)) (sym stimuli) h.bits);
  inside = ap (list_all (spans new.engine.program.bits)) outputs ∙ ap (λ (p : Program). list_all (spans p.bits) m.misses.outputs) program ∙ h.inside;
  columns = columns;
  fit = subst (λ (os : List Span). AllFit os new.stimuli) (sym outputs) (subst (AllFit m.misses.outputs) (sym stimuli) h.fit);
}

-- as many lanes are watched as there are
pub found_long : {W : Type 0} (m : Checking W) (lanes : ℕ) → length m.stimuli ≡ lanes → IsCheckable m → length m.misses.found ≡ lanes
found_long m lanes long h = h.columns.lanes ∙ length-map (λ (k : Known). k.columns.expected) m.stimuli ∙ long

-- ---- the first vectors

pub watched_next : {W : Type 0} (lane : W → ℕ → Bool) (run : Run) (m : Checking W) (c : Contents) → AreWatched lane run m c → HaveNext run 0 m.stimuli c
watched_next lane run m c h = record {
  each = λ i lt. unread (reading_of run i) (lane_at m.stimuli i).live (remaining (lane_at m.stimuli i) c) (h.live i lt) (h.reading i lt);
  read = λ i lt _. h.read i lt;
  taken = record { each = λ i lt dead. absurd (alive (lane_at m.stimuli i).live (h.live i lt) dead) };
}

nothing_yet : (run : Run) (i : ℕ) (found : Option Found) (now : State) → found ≡ None → now ≡ beginning (network run) → IsFoundAt run i 0 found now
nothing_yet run i found now none begins = record { given = record { ends = []; solution = tt; found_is = none }; now_is = λ _. begins }

pub watched_begun : {W : Type 0} (lane : W → ℕ → Bool) (run : Run) (m new : Checking W) (before after : Contents) → AreWatched lane run m before
    → length new.stimuli ≡ length m.stimuli → new.misses ≡ m.misses → new.engine ≡ m.engine → HaveVectors run 0 new.stimuli after → AreFoundIn lane run 0 new after
watched_begun lane run m new before after h long misses engine read = record {
  program = subst (λ (e : Running _). IsProgramOf run.design run.clocks e.program) (sym engine) h.program;
  outputs = ap (λ (w : Watch). w.outputs) misses ∙ h.outputs;
  read = read;
  found = record {
    each = λ i lt.
        let within : i < length m.stimuli = omega (arith, long) in
        nothing_yet run i (found_at new.misses.found i) (state lane new.engine i) (ap (λ (w : Watch). found_at w.found i) misses ∙ h.none i within) (ap (λ (e : Running _). state lane e i) engine ∙ h.begins i within);
  };
}

-- ---- a round

-- What a round has made of a check, where the values at its fall are those of the middle engine.
pub record IsCompared {W : Type 0} (lane : W → ℕ → Bool) (run : Run) (old new : Checking W) : Type 0 where
  pub middle : Running W
  pub stimuli : new.stimuli ≡ old.stimuli
  pub program : new.engine.program ≡ old.engine.program
  pub outputs : new.misses.outputs ≡ old.misses.outputs
  pub falls : (i : ℕ) → i < length old.stimuli → (lane_at old.stimuli i).live ≡ true → IsSlotEnd (network run) (state lane old.engine i) (Fall (vector_state run.design run.clocks (lane_at old.stimuli i).vector)) (state lane middle i)
  pub rises : (i : ℕ) → i < length old.stimuli → (lane_at old.stimuli i).live ≡ true → IsSlotEnd (network run) (state lane middle i) Rise (state lane new.engine i)
  pub found : (i : ℕ) → i < length old.stimuli → found_at new.misses.found i ≡ found_behind (found_at old.misses.found i) (found_now old.misses.outputs (lane_at old.stimuli i) (state lane middle i))

nothing_now : (outputs : List Span) (k : Known) (s : State) (found : Option Found) → k.live ≡ false → found ≡ found_behind found (found_now outputs k s)
nothing_now outputs k s found dead = nothing_found found ∙ ap (λ (b : Bool). found_behind found (elim b [ true ↦ on_line k.line (first_miss outputs s 0 k.columns.expected k.wanted) | false ↦ None ])) (sym dead)

found_if : (outputs : List Span) (k : Known) (s : State) (before after : Option Found) → k.live ≡ false → after ≡ found_behind before (found_now outputs k s) → after ≡ before
found_if outputs k s before after dead is = is ∙ ap (λ (b : Bool). found_behind before (elim b [ true ↦ on_line k.line (first_miss outputs s 0 k.columns.expected k.wanted) | false ↦ None ])) dead ∙ sym (nothing_found before)

found_live : (outputs : List Span) (k : Known) (s : State) (before after : Option Found) → k.live ≡ true → after ≡ found_behind before (found_now outputs k s)
    → after ≡ found_behind before (on_line k.line (first_miss outputs s 0 k.columns.expected k.wanted))
found_live outputs k s before after live is = is ∙ ap (λ (b : Bool). found_behind before (elim b [ true ↦ on_line k.line (first_miss outputs s 0 k.columns.expected k.wanted) | false ↦ None ])) live

-- a round in which no lane has a vector finds nothing
pub idle_compared : {W : Type 0} (lane : W → ℕ → Bool) (run : Run) (m : Checking W) → 0 ≡ count_by (λ s. s.live) m.stimuli → IsCompared lane run m m
idle_compared lane run m none = record {
  middle = m.engine;
  stimuli = refl;
  program = refl;
  outputs = refl;
  falls = λ i lt. not_live m.stimuli i none;
  rises = λ i lt. not_live m.stimuli i none;
  found = λ i lt. nothing_now m.misses.outputs (lane_at m.stimuli i) (state lane m.engine i) (found_at m.misses.found i) (none_live m.stimuli i none);
}

compared_lane : LinesOfVectors → {W : Type 0} (lane : W → ℕ → Bool) (run : Run) (k : ℕ) (old new : Checking W) (c : Contents) (i : ℕ) → i < length old.stimuli → IsCompared lane run old new → AreFoundIn lane run k old c
    → ((lane_at old.stimuli i).live ≡ true) ⊎ ((lane_at old.stimuli i).live ≡ false) → IsFoundAt run i (suc k) (found_at new.misses.found i) (state lane new.engine i)
compared_lane lines lane run k old new c i lt made h (inl live) =
    let s = lane_at old.stimuli i in
    let rest = remaining s c in
    found_goes_on lines run i k s c rest old.misses.outputs (state lane old.engine i) (state lane made.middle i) (state lane new.engine i) (found_at old.misses.found i) (found_at new.misses.found i)
    h.outputs (h.found.each i lt) (subst (λ (b : Bool). IsRead (reading_of run i) k b (last_entry s) rest) live (h.read.each i lt)) (h.read.read i lt live)
    (made.falls i lt live) (made.rises i lt live) (found_live old.misses.outputs s (state lane made.middle i) (found_at old.misses.found i) (found_at new.misses.found i) live (made.found i lt))
compared_lane lines lane run k old new c i lt made h (inr dead) =
    let s = lane_at old.stimuli i in
    let rest = remaining s c in
    found_ends run i k (last_entry s) rest (state lane old.engine i) (state lane new.engine i) (found_at old.misses.found i) (found_at new.misses.found i)
    (h.found.each i lt) (subst (λ (b : Bool). IsRead (reading_of run i) k b (last_entry s) rest) dead (h.read.each i lt))
    (found_if old.misses.outputs s (state lane made.middle i) (found_at old.misses.found i) (found_at new.misses.found i) dead (made.found i lt))

pub compared : LinesOfVectors → {W : Type 0} (lane : W → ℕ → Bool) (run : Run) (k : ℕ) (old new : Checking W) (c : Contents) → IsCompared lane run old new → AreFoundIn lane run k old c → AreFoundBefore lane run (suc k) new c
compared lines lane run k old new c made h = record {
  program = subst (λ (p : Program). IsProgramOf run.design run.clocks p) (sym made.program) h.program;
  outputs = made.outputs ∙ h.outputs;
  next = subst (λ (ks : List Known). HaveNext run (suc k) ks c) (sym made.stimuli) (record { each = λ i lt. read_on (h.read.each i lt); read = λ i lt live. h.read.read i lt live; taken = h.read.taken });
  found = record { each = λ i lt. let within : i < length old.stimuli = omega (arith, ap length made.stimuli, lt) in compared_lane lines lane run k old new c i within made h (either (lane_at old.stimuli i).live) };
}

-- the next vectors were read
pub check_next : {W : Type 0} (lane : W → ℕ → Bool) (run : Run) (k : ℕ) (old new : Checking W) (before after : Contents) → length new.stimuli ≡ length old.stimuli → new.misses ≡ old.misses → new.engine ≡ old.engine
    → AreFoundBefore lane run k old before → (HaveNext run k old.stimuli before → HaveVectors run k new.stimuli after) → AreFoundIn lane run k new after
check_next lane run k old new before after long misses engine h read = record {
  program = subst (λ (e : Running _). IsProgramOf run.design run.clocks e.program) (sym engine) h.program;
  outputs = ap (λ (w : Watch). w.outputs) misses ∙ h.outputs;
  read = read h.next;
  found = record {
    each = λ i lt.
        let within : i < length old.stimuli = omega (arith, long, lt) in
        subst (λ (w : Watch). IsFoundAt run i k (found_at w.found i) (state lane new.engine i)) (sym misses)
        (subst (λ (e : Running _). IsFoundAt run i k (found_at old.misses.found i) (state lane e i)) (sym engine) (h.found.each i within));
  };
}

-- ---- the end

-- a stop of the reading, with what was found
pub check_stops : {W : Type 0} (lane : W → ℕ → Bool) (run : Run) (k lanes : ℕ) (m : Checking W) (misses : Watch) (before after : Contents) (stop : Stop) → 0 < k → length m.stimuli ≡ lanes → misses ≡ m.misses
    → AreFoundBefore lane run k m before → ReadStops run lanes k after stop → IsCheckStop run lanes k misses.found after stop
check_stops lane run k lanes m misses before after stop some long same h read = record {
  later = some;
  read = read;
  found = record { each = λ i lt. let within : i < length m.stimuli = omega (arith, long, lt) in subst (λ (w : Watch). IsFound run.design run.clocks run.ports (run.texts i) k (found_at w.found i)) (sym same) (h.found.each i within).given };
}

-- in a round in which no lane has a vector
pub checked_before : {W : Type 0} (lane : W → ℕ → Bool) (run : Run) (lanes k : ℕ) (old m : Checking W) (c : Contents) → length old.stimuli ≡ lanes → m.stimuli ≡ old.stimuli → 0 ≡ count_by (λ s. s.live) old.stimuli → AreLanes m.stimuli
    → AreFoundBefore lane run (suc k) m c → AreChecked run lanes m.misses.found c
checked_before lane run lanes k old m c long same none numbered h =
    let long_now : length m.stimuli ≡ lanes = ap length same ∙ long in
    let dead = all_dead_before run lanes (suc k) m.stimuli c long_now (λ i. ap (λ (ks : List Known). (lane_at ks i).live) same ∙ none_live old.stimuli i none) numbered h.next in
    record {
      valid = λ i lt. (dead i lt).0;
      taken = λ i lt. (dead i lt).2;
      found = λ i lt.
          let within : i < length m.stimuli = omega (arith, long_now, lt) in
          found_past run.design run.clocks run.ports (run.texts i) (suc k) (length (reading_of run i).vectors) (found_at m.misses.found i) (omega (arith, (dead i lt).1)) (omega arith) (h.found.each i within).given;
    }

-- no text has a vector for the last round
pub checked_at_last : {W : Type 0} (lane : W → ℕ → Bool) (run : Run) (lanes k : ℕ) (m : Checking W) (c : Contents) → length m.stimuli ≡ lanes → 16777217 ≤ k → AreLanes m.stimuli → AreFoundIn lane run k m c → AreChecked run lanes m.misses.found c
checked_at_last lane run lanes k m c long past numbered h =
    let dead = all_dead_last run lanes k m.stimuli c long past numbered h.read in
    record {
      valid = λ i lt. (dead i lt).0;
      taken = λ i lt. (dead i lt).2;
      found = λ i lt.
          let within : i < length m.stimuli = omega (arith, long, lt) in
          found_past run.design run.clocks run.ports (run.texts i) k (length (reading_of run i).vectors) (found_at m.misses.found i) (omega (arith, (dead i lt).1)) (omega arith) (h.found.each i within).given;
    }
