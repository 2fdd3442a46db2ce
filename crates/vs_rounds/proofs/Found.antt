-- What was found in a lane, round by round.
use Rattle.std.proofs.Common.{◌≡◌, ◌≤◌, ◌*◌, ◌+◌, ◌-◌, ◌∙◌, ℕ, suc, true, false, List, [], ◌∷◌, ◌++◌, length, take, sym, ap, refl, subst, arith, Option}
use Rattle.std.proofs.lemmas.List.{length-take-le, take_all}
use Rattle.vs_net.specs.Network.{State}
use Rattle.vs_net.specs.Queue.{Fall, Rise}
use Rattle.vs_net.specs.Solution.{beginning, IsSlotEnd, IsSolution}
use Rattle.vs_design.specs.Designs.{Design}
use Rattle.vs_design.specs.Networks.{network_of}
use Rattle.vs_desk.specs.Desk.{Contents}
use Rattle.vs_program.specs.declared.compiled.Span.{Span}
use Rattle.vs_stim.specs.declared.input.Expected.{Expected}
use Rattle.vs_stim.specs.declared.wanted.Digit.{Digit}
use Rattle.vs_stim.specs.Header.{PortLists}
use Rattle.vs_stim.specs.Vectors.{Entry}
use Rattle.vs_stim.specs.Known.{Known, last_entry, text_left}
use Rattle.vs_stim.specs.Numbers.{line_of_vector}
use Rattle.vs_stim.specs.Laws.{LinesOfVectors}
use Rattle.vs_stim.specs.Reading.{Reading, reading, columns}
use Rattle.vs_misses.specs.Missed.{Found, first_miss, on_line, found_behind}
use Rattle.vs_rounds.specs.Drives.{Vector, vector_state, drive_of}
use Rattle.vs_rounds.specs.Lanes.{Run, reading_of, network, IsRead, HasGiven}
use Rattle.vs_rounds.specs.Missed.{output_spans, missed_from, expected_in, told_of, missed_of, missed_in}
use Rattle.vs_rounds.specs.Checked.{IsFound, IsFoundAt}
use Rattle.vs_rounds.proofs.Grows.{last_of_two}
use Rattle.vs_rounds.proofs.Readings.{vector_read, wanted_read}
use Rattle.vs_rounds.proofs.Waves.{ends_of_solution, solution_goes_on}
use Rattle.vs_rounds.proofs.Limited.{wanted_long}
use Rattle.vs_rounds.proofs.Missed.{told_push}

-- the line of the vector of round k
line_is : LinesOfVectors → (run : Run) (i k : ℕ) (s : Known) (c : Contents) → HasGiven run i (suc k) s c → line_of_vector (run.texts i) k ≡ s.line
line_is lines run i k s c given =
    let before : k ≡ s.count - 1 = omega (arith, given.count_is) in
    ap (line_of_vector (run.texts i)) before ∙ lines run.ports (run.texts i) s.count s.columns s.line s.at (text_left s c) given.read (omega (arith, given.count_is))

-- what is missed behind round k
found_step : LinesOfVectors → (run : Run) (i k : ℕ) (s : Known) (c : Contents) (rest : Reading) (outputs : List Span) (ends : List State) (mid next : State) (before after : Option Found)
    → outputs ≡ output_spans run.design run.ports.outputs → IsRead (reading_of run i) k true (last_entry s) rest → HasGiven run i (suc k) s c → length ends ≡ 2 * k
    → before ≡ missed_in run.design run.ports (run.texts i) k ends → after ≡ found_behind before (on_line s.line (first_miss outputs mid 0 s.columns.expected s.wanted))
    → after ≡ missed_in run.design run.ports (run.texts i) (suc k) (ends ++ mid ∷ next ∷ [])
found_step lines run i k s c rest outputs ends mid next before after outputs_are read given long before_is after_is =
    let text = run.texts i in
    let r = reading_of run i in
    let spans = output_spans run.design run.ports.outputs in
    let es = expected_in (columns run.ports text) in
    let w = wanted_read read in
    let count : length (take k r.wanted) ≡ k = length-take-le k r.wanted (omega (arith, w.0)) in
    let columns_are : es ≡ s.columns.expected = ap expected_in given.read.columns_are in
    let now = λ (line : ℕ) (os : List Span) (xs : List Expected). on_line line (first_miss os mid 0 xs s.wanted) in
    let pushed = told_push text spans es (take k r.wanted) s.wanted ends mid next (omega (arith, long, count)) in
    after_is
    ∙ ap (λ (f : Option Found). found_behind f (now s.line outputs s.columns.expected)) before_is
    ∙ ap (λ (os : List Span). found_behind (missed_in run.design run.ports text k ends) (now s.line os s.columns.expected)) outputs_are
    ∙ ap (λ (xs : List Expected). found_behind (missed_in run.design run.ports text k ends) (now s.line spans xs)) (sym columns_are)
    ∙ ap (λ (line : ℕ). found_behind (missed_in run.design run.ports text k ends) (now line spans es)) (sym (line_is lines run i k s c given))
    ∙ ap (λ (n : ℕ). found_behind (missed_in run.design run.ports text k ends) (now (line_of_vector text n) spans es)) (sym count)
    ∙ sym pushed
    ∙ ap (λ (ws : List (List (List Digit))). told_of text (missed_from spans es 0 ws (ends ++ mid ∷ next ∷ []))) (sym w.1)

-- a live lane's round
pub found_goes_on : LinesOfVectors → (run : Run) (i k : ℕ) (s : Known) (c : Contents) (rest : Reading) (outputs : List Span) (now mid next : State) (before after : Option Found)
    → outputs ≡ output_spans run.design run.ports.outputs → IsFoundAt run i k before now → IsRead (reading_of run i) k true (last_entry s) rest → HasGiven run i (suc k) s c
    → IsSlotEnd (network run) now (Fall (vector_state run.design run.clocks s.vector)) mid → IsSlotEnd (network run) mid Rise next
    → after ≡ found_behind before (on_line s.line (first_miss outputs mid 0 s.columns.expected s.wanted))
    → IsFoundAt run i (suc k) after next
found_goes_on lines run i k s c rest outputs now mid next before after outputs_are h read given falls rises after_is =
    let r = reading_of run i in
    let at = vector_read read in
    let within : k ≤ length r.vectors = omega (arith, at.0) in
    let ends = h.given.ends in
    let long : length ends ≡ 2 * k = ends_of_solution run.design run.clocks k r.vectors ends h.given.solution within in
    record {
      given = record {
        ends = ends ++ mid ∷ next ∷ [];
        solution = solution_goes_on run.design run.clocks k r.vectors s.vector ends now mid next at.1 (h.now_is within) h.given.solution falls rises;
        found_is = found_step lines run i k s c rest outputs ends mid next before after outputs_are read given long h.given.found_is after_is;
      };
      now_is = λ _. sym (last_of_two (beginning (network run)) ends mid next);
    }

-- where a text has no more vectors nothing more is missed
missed_past : (d : Design) (ports : PortLists) (text : List ℕ) (j k : ℕ) (ends : List State) → length (reading ports text).vectors ≤ j → length (reading ports text).vectors ≤ k
    → missed_in d ports text j ends ≡ missed_in d ports text k ends
missed_past d ports text j k ends past over =
    let long = wanted_long ports text in
    let whole = (reading ports text).wanted in
    let same : take j whole ≡ take k whole = take_all j whole (omega (arith, long)) ∙ sym (take_all k whole (omega (arith, long))) in
    ap (λ (ws : List (List (List Digit))). missed_of d ports text ws ends) same

pub found_past : (d : Design) (clocks : List ℕ) (ports : PortLists) (text : List ℕ) (j k : ℕ) (found : Option Found) → length (reading ports text).vectors ≤ j → length (reading ports text).vectors ≤ k
    → IsFound d clocks ports text j found → IsFound d clocks ports text k found
found_past d clocks ports text j k found past over h =
    let vectors = (reading ports text).vectors in
    let same : take j vectors ≡ take k vectors = take_all j vectors past ∙ sym (take_all k vectors over) in
    record {
      ends = h.ends;
      solution = subst (λ (vs : List Vector). IsSolution (network_of d clocks) (beginning (network_of d clocks)) (drive_of d clocks vs) h.ends) same h.solution;
      found_is = h.found_is ∙ missed_past d ports text j k h.ends past over;
    }

-- a lane that has ended
pub found_ends : (run : Run) (i k : ℕ) (entry : Entry) (rest : Reading) (now next : State) (before after : Option Found) → IsFoundAt run i k before now → IsRead (reading_of run i) k false entry rest → after ≡ before
    → IsFoundAt run i (suc k) after next
found_ends run i k entry rest now next before after h read same =
    let over = read.ended refl in
    record {
      given = found_past run.design run.clocks run.ports (run.texts i) k (suc k) after over (omega (arith, over)) (subst (IsFound run.design run.clocks run.ports (run.texts i) k) (sym same) h.given);
      now_is = λ within. absurd (omega (arith, over, within));
    }
