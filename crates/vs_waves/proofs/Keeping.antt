-- How the waves of all lanes are kept, and what a round makes of them.
use Rattle.std.proofs.Common.{◌≡◌, ℕ, zero, suc, ◌+◌, ◌*◌, ◌^◌, ◌<◌, ◌==◌, ◌&&◌, Bool, true, false, List, [], ◌∷◌, ◌++◌, length, refl, sym, ap, ap₂, ◌∙◌, subst, arith}
use Rattle.std.specs.Prelude.{slice_get, Some, All, map, if◌then◌else◌}
use Rattle.std.proofs.Math.Nat.{add-mul, mul_assoc}
use Rattle.std.proofs.lemmas.List.{length-map}
use Rattle.std.proofs.lemmas.Option.{slice_get_within, get_or_from_slice_get}
use Rattle.std.proofs.lemmas.Bool.{ne_eqb}
use Rattle.std.proofs.Math.ListN.{replicate}
use Rattle.std.proofs.lemmas.List.Elements.{All-replicate, All-from_get_or}
use Rattle.vs_four.specs.Logic.{BitList}
use Rattle.vs_net.specs.Network.{State}
use Rattle.vs_design.specs.Expressions.{signal_length}
use Rattle.vs_design.specs.Values.{count_from, read}
use Rattle.vs_design.specs.Designs.{Design}
use Rattle.vs_vcd.specs.Scopes.{shown_signals, head_text}
use Rattle.vs_vcd.specs.Shared.{at_places, coded, led, led_places}
use Rattle.vs_vcd.specs.Texts.{shown_numbers, time_line, first_text, slot_text}
use Rattle.vs_program.specs.declared.compiled.Span.{Span}
use Rattle.vs_program.specs.Compiled.{span_bits}
use Rattle.vs_plane.specs.Lanes.{slot_lane}
use Rattle.vs_engine.specs.Lanes.{Running, state}
use Rattle.vs_waves.specs.declared.slot.Slot.{Slot}
use Rattle.vs_waves.specs.declared.round.LaneWave.{LaneWave}
use Rattle.vs_waves.specs.declared.round.Round.{Round}
use Rattle.vs_waves.specs.declared.waves.Waves.TheInside.{Inside}
use Rattle.vs_waves.specs.Wave.{Wave, IsNewWave}
use Rattle.vs_waves.specs.Rounds.{CanBegin, CanPut, EachGoesOn, values_in, lane_values, fall_time, rise_time, fall_text, last_part, round_text, begun, after_put}
use Rattle.vs_waves.specs.Last.{LastPlanes, last_values}
use Rattle.vs_waves.specs.Slots.{AreTails, IsSlot, slot_lines, lane_text}
use Rattle.vs_waves.specs.Kept.{wave_of, waves_from, waves_of, IsKept}
use Rattle.vs_waves.proofs.Picking.{value_lengths, within_as}
use Rattle.vs_waves.proofs.Lists.{element, All-at, same_element}

-- ---- waves by lane

length-waves_from : {W : Type 0} (lane : W → ℕ → Bool) (lanes : ℕ) (w : Inside W) (first : ℕ) (ls : List LaneWave) → length (waves_from lane lanes w first ls) ≡ length ls
length-waves_from lane lanes w first [] = refl
length-waves_from lane lanes w first (l ∷ ls) = ap suc (length-waves_from lane lanes w (suc first) ls)

pub length-waves_of : {W : Type 0} (lane : W → ℕ → Bool) (lanes : ℕ) (w : Inside W) → length (waves_of lane lanes w) ≡ length w.lanes.items
length-waves_of lane lanes w = length-waves_from lane lanes w 0 w.lanes.items

at_from : {W : Type 0} (lane : W → ℕ → Bool) (lanes : ℕ) (w : Inside W) (first : ℕ) (ls : List LaneWave) (i k : ℕ) (l : LaneWave) → k ≡ first + i → slice_get ls i ≡ Some l
    → slice_get (waves_from lane lanes w first ls) i ≡ Some (wave_of lane lanes w k l)
at_from lane lanes w first [] i k l e h = cc
at_from lane lanes w first (x ∷ ls) zero k l e h =
    let same : x ≡ l = cc in
    let number : first ≡ k = omega arith in
    ap₂ (λ (j : ℕ) (y : LaneWave). Some (wave_of lane lanes w j y)) number same
at_from lane lanes w first (x ∷ ls) (suc i) k l e h = at_from lane lanes w (suc first) ls i k l (omega arith) h

pub wave_at : {W : Type 0} (lane : W → ℕ → Bool) (lanes : ℕ) (w : Inside W) (i : ℕ) (l : LaneWave) → slice_get w.lanes.items i ≡ Some l → slice_get (waves_of lane lanes w) i ≡ Some (wave_of lane lanes w i l)
wave_at lane lanes w i l h = at_from lane lanes w 0 w.lanes.items i i l (omega arith) h

-- Each of these waves goes on, where those that are kept do by lane.
pub goes_on : {W : Type 0} (lane : W → ℕ → Bool) (lanes : ℕ) (next : ℕ → Bool → Wave → Wave) (step : Bool → LaneWave → LaneWave) (live : List Bool) (w v : Inside W) (old : List Wave)
    → waves_of lane lanes w ≡ old → length v.lanes.items ≡ length w.lanes.items
    → ((i : ℕ) (b : Bool) (l : LaneWave) → slice_get live i ≡ Some b → slice_get w.lanes.items i ≡ Some l → slice_get v.lanes.items i ≡ Some (step b l))
    → ((i : ℕ) (b : Bool) (l : LaneWave) → i < length w.lanes.items → wave_of lane lanes v i (step b l) ≡ next i b (wave_of lane lanes w i l))
    → EachGoesOn next live old (waves_of lane lanes v)
goes_on lane lanes next step live w v old e count each is = record {
  count = length-waves_of lane lanes v ∙ count ∙ sym (length-waves_of lane lanes w) ∙ ap length e;
  each = λ i b x p q.
      let inside : i < length w.lanes.items = omega (arith, slice_get_within old i x q, length-waves_of lane lanes w, ap length e) in
      let found = element w.lanes.items i inside in
      let same : wave_of lane lanes w i found.0 ≡ x = same_element old i (wave_of lane lanes w i found.0) x (ap (λ ws. slice_get ws i) (sym e) ∙ wave_at lane lanes w i found.0 found.1) q in
      wave_at lane lanes v i (step b found.0) (each i b found.0 p found.1) ∙ ap Some (is i b found.0 inside ∙ ap (next i b) same);
}

-- a slot of as many signals
pub slot_of : {W : Type 0} (lanes n m : ℕ) (s : Slot W) → n ≡ m → IsSlot lanes n s → IsSlot lanes m s
slot_of lanes n m s e is = subst (λ (k : ℕ). IsSlot lanes k s) e is

-- The waves are kept still where as many lanes, the ends of lines and the signals stay, and each slot is one of theirs.
pub still_kept : {W : Type 0} (lanes : ℕ) (w v : Inside W) → IsKept lanes w → length v.lanes.items ≡ length w.lanes.items → v.round.tails ≡ w.round.tails
    → IsSlot lanes (length w.round.tails.items) v.round.fall → IsSlot lanes (length w.round.tails.items) v.round.rise → v.last.signals ≡ w.last.signals → length v.block.items ≡ length w.block.items → IsKept lanes v
still_kept lanes w v kept count tails fall rise signals block =
    let tails_are : v.round.tails.items ≡ w.round.tails.items = ap (λ ts. ts.items) tails in
    let long : length w.round.tails.items ≡ length v.round.tails.items = ap length (sym tails_are) in
    record {
      few = omega (arith, kept.few);
      round = record {
        tails = subst AreTails (sym tails_are) kept.round.tails;
        fall = slot_of lanes (length w.round.tails.items) (length v.round.tails.items) v.round.fall long fall;
        rise = slot_of lanes (length w.round.tails.items) (length v.round.tails.items) v.round.rise long rise;
      };
      signals = signals ∙ kept.signals ∙ long;
      block = omega (arith, kept.block);
    }

-- ---- lengths and times

length-count_from : (first count : ℕ) → length (count_from first count) ≡ count
length-count_from first zero = refl
length-count_from first (suc count) = ap suc (length-count_from (suc first) count)

-- each value has its signal's length
pub lengths-values_in : (bits : State) (signals : List Span) → map length (values_in bits signals) ≡ map (λ (s : Span). s.length) signals
lengths-values_in bits [] = refl
lengths-values_in bits (s ∷ signals) =
    ap (λ (n : ℕ). n ∷ map length (values_in bits signals)) (length-map (span_bits s) bits ∙ length-count_from s.first s.length)
    ∙ ap (λ (ns : List ℕ). s.length ∷ ns) (lengths-values_in bits signals)

-- the engine's signals that are written have the lengths of those of the last slot, where their values have them
same_lengths : {W : Type 0} (lane : W → ℕ → Bool) (engine : Running W) (last : LastPlanes W) (i : ℕ) → map length (at_places [] last.places (lane_values lane engine i)) ≡ map length (last_values lane last i)
    → at_places 0 last.places (map (λ (s : Span). s.length) engine.program.signals) ≡ map (λ (s : Span). s.length) last.spans
same_lengths lane engine last i e =
    sym (ap (at_places 0 last.places) (lengths-values_in (state lane engine i) engine.program.signals))
    ∙ sym (value_lengths last.places (lane_values lane engine i))
    ∙ e
    ∙ lengths-values_in (λ b. slot_lane lane last.planes b i) last.spans

-- and the places of those that are written are among them
same_within : {W : Type 0} (lane : W → ℕ → Bool) (engine : Running W) (places : List ℕ) (i : ℕ) → All (λ k. k < length (lane_values lane engine i)) places → All (λ k. k < length engine.program.signals) places
same_within lane engine places i h = within_as places _ _ (length-map engine.program.signals (λ (s : Span). read (state lane engine i) (span_bits s))) h

-- the times of a round fit, and are those of its fall and its rise
pub record HasTimes (round half : ℕ) : Type 0 where
  pub product : round * half < 2 ^ 64
  pub fall : 2 * (round * half) < 2 ^ 64
  pub rise : 2 * (round * half) + half < 2 ^ 64
  pub fall_is : 2 * (round * half) ≡ fall_time round half
  pub rise_is : 2 * (round * half) + half ≡ rise_time round half

has_times : (round half : ℕ) → (2 * round + 2) * half < 2 ^ 64 → HasTimes round half
has_times round half h =
    let assoc = mul_assoc 2 round half in
    let last = add-mul (2 * round) 2 half in
    let one = add-mul (2 * round) 1 half in
    record { product = omega arith; fall = omega arith; rise = omega arith; fall_is = sym assoc; rise_is = omega arith }

-- there is a first lane
record FirstLane {W : Type 0} (lane : W → ℕ → Bool) (lanes : ℕ) (w : Inside W) (live : List Bool) (waves : List Wave) : Type 0 where
  flag : Bool
  stands : LaneWave
  flagged : slice_get live 0 ≡ Some flag
  here : slice_get waves 0 ≡ Some (wave_of lane lanes w 0 stands)

first_lane : {W : Type 0} (lane : W → ℕ → Bool) (lanes : ℕ) (w : Inside W) (live : List Bool) (waves : List Wave) (none : Bool)
    → waves_of lane lanes w ≡ waves → length live ≡ length waves → none ≡ (length live == 0) → none ≡ false → FirstLane lane lanes w live waves
first_lane lane lanes w live waves none e flags test is =
    let some : 0 < length live = some_in (length live) (sym test ∙ is) in
    let flag = element live 0 some in
    let wave = element w.lanes.items 0 (omega (arith, length-waves_of lane lanes w, ap length e)) in
    record {
      flag = flag.0;
      stands = wave.0;
      flagged = flag.1;
      here = ap (λ ws. slice_get ws 0) (sym e) ∙ wave_at lane lanes w 0 wave.0 wave.1;
    } where
      some_in : (n : ℕ) → (n == 0) ≡ false → 0 < n
      some_in zero h = cc
      some_in (suc n) h = omega arith

-- the round can follow: its times fit, and the engine's signals have the lengths of those of the last slot
pub record CanFollow {W : Type 0} (engine : Running W) (round : ℕ) (w : Inside W) : Type 0 where
  pub times : HasTimes round w.half
  pub within : All (λ k. k < length engine.program.signals) w.last.places
  pub lengths : at_places 0 w.last.places (map (λ (s : Span). s.length) engine.program.signals) ≡ map (λ (s : Span). s.length) w.last.spans

-- where some wave can be begun, and where some can be put
pub begin_follows : {W : Type 0} (lane : W → ℕ → Bool) (lanes : ℕ) (engine : Running W) (round : ℕ) (w : Inside W) (live : List Bool) (waves : List Wave) (none : Bool)
    → waves_of lane lanes w ≡ waves → length live ≡ length waves → none ≡ (length live == 0) → none ≡ false
    → ((i : ℕ) (x : Wave) → slice_get waves i ≡ Some x → CanBegin round (lane_values lane engine i) x) → CanFollow engine round w
begin_follows lane lanes engine round w live waves none e flags test is ready =
    let first = first_lane lane lanes w live waves none e flags test is in
    let can = ready 0 (wave_of lane lanes w 0 first.stands) first.here in
    record { times = has_times round w.half can.in_time; within = same_within lane engine w.last.places 0 can.within; lengths = same_lengths lane engine w.last 0 can.lengths }

pub put_follows : {W : Type 0} (lane : W → ℕ → Bool) (lanes : ℕ) (engine : Running W) (round : ℕ) (w : Inside W) (live : List Bool) (waves : List Wave) (none : Bool)
    → waves_of lane lanes w ≡ waves → length live ≡ length waves → none ≡ (length live == 0) → none ≡ false
    → ((i : ℕ) (l : Bool) (x : Wave) → slice_get live i ≡ Some l → slice_get waves i ≡ Some x → CanPut round l (lane_values lane engine i) x) → CanFollow engine round w
put_follows lane lanes engine round w live waves none e flags test is ready =
    let first = first_lane lane lanes w live waves none e flags test is in
    let can = ready 0 first.flag (wave_of lane lanes w 0 first.stands) first.flagged first.here in
    record { times = has_times round w.half can.in_time; within = same_within lane engine w.last.places 0 can.within; lengths = same_lengths lane engine w.last 0 can.lengths }

-- ---- what a round makes of a lane

abbrev wave_with : List ℕ → List ℕ → List ℕ → ℕ → List BitList → List ℕ → Bool → Wave
wave_with head numbers places half last left is_open = record { dump = record { head = head; numbers = numbers; half = half; last = last; left = left }; places = places; is_open = is_open }

same_wave : (h head m numbers o places : List ℕ) (k half : ℕ) (v last : List BitList) (t left : List ℕ) (is_open : Bool) → h ≡ head → m ≡ numbers → o ≡ places → k ≡ half → v ≡ last → t ≡ left → wave_with h m o k v t is_open ≡ wave_with head numbers places half last left is_open
same_wave h head m numbers o places k half v last t left is_open p n u q r s = cc

-- how a lane stands once its fall was noted, or not
abbrev pub noted : Bool → LaneWave → LaneWave
noted live l = record l { is_noted = live }

-- and once its round was put
abbrev pub closed : Bool → LaneWave → LaneWave
closed live l = record { is_open = live && l.is_open; is_noted = false }

-- the round's fall has the engine's values, and the text that is to be noted
pub record HasFallen {W : Type 0} (lane : W → ℕ → Bool) (lanes : ℕ) (engine : Running W) (round : ℕ) (w v : Inside W) : Type 0 where
  pub half : v.half ≡ w.half
  pub head : v.round.head.items ≡ w.round.head.items
  pub numbers : v.last.numbers ≡ w.last.numbers
  pub places : v.last.places ≡ w.last.places
  pub values : (i : ℕ) → i < lanes → last_values lane v.last i ≡ at_places [] w.last.places (lane_values lane engine i)
  pub text : (i : ℕ) (l : LaneWave) → i < lanes
      → (if v.round.fall.is_first then v.round.head.items else []) ++ slot_lines lane lanes v.round.fall i ≡ fall_text round (at_places [] w.last.places (lane_values lane engine i)) (wave_of lane lanes w i l).dump

pub fallen_wave : {W : Type 0} (lane : W → ℕ → Bool) (lanes : ℕ) (engine : Running W) (round : ℕ) (w v : Inside W) → HasFallen lane lanes engine round w v
    → (i : ℕ) (b : Bool) (l : LaneWave) → i < lanes → wave_of lane lanes v i (noted b l) ≡ begun round b (lane_values lane engine i) (wave_of lane lanes w i l)
fallen_wave lane lanes engine round w v fallen i true l h =
    same_wave v.round.head.items w.round.head.items v.last.numbers w.last.numbers v.last.places w.last.places v.half w.half (last_values lane v.last i) (at_places [] w.last.places (lane_values lane engine i))
    ((if v.round.fall.is_first then v.round.head.items else []) ++ slot_lines lane lanes v.round.fall i)
    (fall_text round (at_places [] w.last.places (lane_values lane engine i)) (wave_of lane lanes w i l).dump)
    l.is_open fallen.head fallen.numbers fallen.places fallen.half (fallen.values i h) (fallen.text i l h)
fallen_wave lane lanes engine round w v fallen i false l h =
    same_wave v.round.head.items w.round.head.items v.last.numbers w.last.numbers v.last.places w.last.places v.half w.half (last_values lane v.last i) (at_places [] w.last.places (lane_values lane engine i)) [] [] l.is_open fallen.head fallen.numbers fallen.places fallen.half (fallen.values i h) refl

-- the text of the fall, in round 0 and later
pub first_fall : (round : ℕ) (is_first : Bool) (head numbers lines : List ℕ) (now last : List BitList) (half : ℕ) → round ≡ 0 → is_first ≡ true → lines ≡ first_text numbers now
    → (if is_first then head else []) ++ lines ≡ (if round == 0 then head ++ first_text numbers now else slot_text numbers (fall_time round half) last now)
first_fall round is_first head numbers lines now last half zeroth first text =
    ap₂ (λ (b : Bool) (t : List ℕ). (if b then head else []) ++ t) first text
    ∙ ap (λ (k : ℕ). if k == 0 then head ++ first_text numbers now else slot_text numbers (fall_time k half) last now) (sym zeroth)

pub later_fall : (round : ℕ) (is_first : Bool) (head numbers lines : List ℕ) (now last : List BitList) (half time : ℕ) → (round ≡ 0 → ⊥) → is_first ≡ false → time ≡ fall_time round half
    → lines ≡ slot_text numbers time last now
    → (if is_first then head else []) ++ lines ≡ (if round == 0 then head ++ first_text numbers now else slot_text numbers (fall_time round half) last now)
later_fall round is_first head numbers lines now last half time not_zero first time_is text =
    let later : List ℕ = slot_text numbers (fall_time round half) last now in
    let of : Bool → List ℕ = λ (b : Bool). if b then head ++ first_text numbers now else later in
    ap₂ (λ (b : Bool) (t : List ℕ). (if b then head else []) ++ t) first text ∙ ap (λ (k : ℕ). slot_text numbers k last now) time_is ∙ sym (ap of (ne_eqb round 0 not_zero))

-- the round's rise has the engine's values and its text, and the fall is as it was
pub record HasRisen {W : Type 0} (lane : W → ℕ → Bool) (lanes : ℕ) (engine : Running W) (round : ℕ) (w v : Inside W) : Type 0 where
  pub half : v.half ≡ w.half
  pub head : v.round.head.items ≡ w.round.head.items
  pub fall : v.round.fall ≡ w.round.fall
  pub numbers : v.last.numbers ≡ w.last.numbers
  pub places : v.last.places ≡ w.last.places
  pub values : (i : ℕ) → i < lanes → last_values lane v.last i ≡ at_places [] w.last.places (lane_values lane engine i)
  pub text : (i : ℕ) → i < lanes → slot_lines lane lanes v.round.rise i ≡ slot_text w.last.numbers (rise_time round w.half) (last_values lane w.last i) (at_places [] w.last.places (lane_values lane engine i))

-- what is put of a lane
pub risen_text : {W : Type 0} (lane : W → ℕ → Bool) (lanes : ℕ) (engine : Running W) (round time : ℕ) (w v : Inside W) → HasRisen lane lanes engine round w v → time ≡ fall_time round w.half
    → (i : ℕ) (b : Bool) (l : LaneWave) → i < lanes → lane_text lane lanes v.round b time l i ≡ round_text round b (lane_values lane engine i) (wave_of lane lanes w i l)
risen_text lane lanes engine round time w v risen time_is i true l h =
    ap₂ (λ (head : List ℕ) (fall : Slot _). (if l.is_noted then (if fall.is_first then head else []) ++ slot_lines lane lanes fall i else []) ++ slot_lines lane lanes v.round.rise i) risen.head risen.fall
    ∙ ap (λ (t : List ℕ). (if l.is_noted then (if w.round.fall.is_first then w.round.head.items else []) ++ slot_lines lane lanes w.round.fall i else []) ++ t) (risen.text i h)
risen_text lane lanes engine round time w v risen time_is i false l h = ended l.is_open where
  ended : (is_open : Bool) → (if is_open then time_line time else []) ≡ last_part round is_open (wave_of lane lanes w i l).dump
  ended true = ap time_line time_is
  ended false = refl

-- and how its wave is then
pub risen_wave : {W : Type 0} (lane : W → ℕ → Bool) (lanes : ℕ) (engine : Running W) (round : ℕ) (w v : Inside W) → HasRisen lane lanes engine round w v
    → (i : ℕ) (b : Bool) (l : LaneWave) → i < lanes → wave_of lane lanes v i (closed b l) ≡ after_put b (lane_values lane engine i) (wave_of lane lanes w i l)
risen_wave lane lanes engine round w v risen i true l h =
    same_wave v.round.head.items w.round.head.items v.last.numbers w.last.numbers v.last.places w.last.places v.half w.half (last_values lane v.last i) (at_places [] w.last.places (lane_values lane engine i)) [] [] l.is_open risen.head risen.numbers risen.places risen.half (risen.values i h) refl
risen_wave lane lanes engine round w v risen i false l h =
    same_wave v.round.head.items w.round.head.items v.last.numbers w.last.numbers v.last.places w.last.places v.half w.half (last_values lane v.last i) (at_places [] w.last.places (lane_values lane engine i)) [] [] false risen.head risen.numbers risen.places risen.half (risen.values i h) refl

-- A round has risen where its slot is this one, which has the text, and the planes have the engine's values.
pub has_risen : {W : Type 0} (lane : W → ℕ → Bool) (lanes : ℕ) (engine : Running W) (round time : ℕ) (w v : Inside W) (last : LastPlanes W) (rise : Slot W)
    → v.half ≡ w.half → v.last ≡ last → v.round ≡ record w.round { rise = rise } → time ≡ rise_time round w.half
    → last.numbers ≡ w.last.numbers → last.places ≡ w.last.places → ((i : ℕ) → i < lanes → last_values lane last i ≡ at_places [] w.last.places (lane_values lane engine i))
    → ((i : ℕ) → i < lanes → slot_lines lane lanes rise i ≡ slot_text w.last.numbers time (last_values lane w.last i) (at_places [] w.last.places (lane_values lane engine i)))
    → HasRisen lane lanes engine round w v
has_risen lane lanes engine round time w v last rise half last_is round_is time_is numbers places values text = record {
  half = half;
  head = ap (λ (r : Round _). r.head.items) round_is;
  fall = ap (λ (r : Round _). r.fall) round_is;
  numbers = ap (λ (l : LastPlanes _). l.numbers) last_is ∙ numbers;
  places = ap (λ (l : LastPlanes _). l.places) last_is ∙ places;
  values = λ i h. ap (λ (l : LastPlanes _). last_values lane l i) last_is ∙ values i h;
  text = λ i h. ap (λ (r : Round _). slot_lines lane lanes r.rise i) round_is ∙ text i h ∙ ap (λ (k : ℕ). slot_text w.last.numbers k (last_values lane w.last i) (at_places [] w.last.places (lane_values lane engine i))) time_is;
}

-- and is kept
pub kept_risen : {W : Type 0} (lanes : ℕ) (w v : Inside W) (last : LastPlanes W) (rise : Slot W) → IsKept lanes w → length v.lanes.items ≡ length w.lanes.items
    → v.last ≡ last → v.round ≡ record w.round { rise = rise } → last.signals ≡ w.last.signals → IsSlot lanes w.last.signals rise → length v.block.items ≡ length w.block.items → IsKept lanes v
kept_risen lanes w v last rise kept count last_is round_is signals slot block =
    let IsOne : Slot _ → Type 0 = λ s. IsSlot lanes (length w.round.tails.items) s in
    still_kept lanes w v kept count (ap (λ (r : Round _). r.tails) round_is)
    (subst IsOne (sym (ap (λ (r : Round _). r.fall) round_is)) kept.round.fall)
    (subst IsOne (sym (ap (λ (r : Round _). r.rise) round_is)) (slot_of lanes w.last.signals (length w.round.tails.items) rise kept.signals slot))
    (ap (λ (l : LastPlanes _). l.signals) last_is ∙ signals) block

-- ---- new waves

-- how each lane stands at first
abbrev pub unopened : LaneWave
unopened = record { is_open = true; is_noted = false }

pub new_waves : {W : Type 0} (lane : W → ℕ → Bool) (lanes : ℕ) (share : Bool) (d : Design) (w : Inside W) (count : ℕ) → w.lanes.items ≡ replicate count unopened → w.round.head.items ≡ head_text (coded share d)
    → map (λ (s : Span). s.length) w.last.spans ≡ map signal_length (shown_signals (led share d)) → w.last.numbers ≡ shown_numbers (led share d) → w.last.places ≡ led_places share d → All (IsNewWave share d w.half) (waves_of lane lanes w)
new_waves lane lanes share d w count same head lengths numbers places = All-from_get_or (IsNewWave share d w.half) (waves_of lane lanes w) none (λ i h.
    let found = element w.lanes.items i (omega (arith, length-waves_of lane lanes w)) in
    let stands : found.0 ≡ unopened = All-at (λ (l : LaneWave). l ≡ unopened) w.lanes.items i found.0 found.1 each in
    let here = get_or_from_slice_get (waves_of lane lanes w) i (wave_of lane lanes w i found.0) none (wave_at lane lanes w i found.0 found.1) in
    subst (IsNewWave share d w.half) (sym (here ∙ ap (wave_of lane lanes w i) stands)) record {
      opened = refl;
      head_is = head;
      numbers_are = numbers;
      places_are = places;
      half_is = refl;
      lengths = lengths-values_in (λ b. slot_lane lane w.last.planes b i) w.last.spans ∙ lengths;
      left_is = refl;
    }) where
      none : Wave
      none = wave_with [] [] [] 0 [] [] true

      each : All (λ (l : LaneWave). l ≡ unopened) w.lanes.items
      each = subst (All (λ (l : LaneWave). l ≡ unopened)) (sym same) (All-replicate (λ (l : LaneWave). l ≡ unopened) count unopened refl)
