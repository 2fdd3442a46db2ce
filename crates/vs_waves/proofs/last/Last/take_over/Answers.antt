use Rattle.std.proofs.Common.{◌≡◌, ℕ, ◌+◌, ◌-◌, ◌*◌, ◌<◌, ◌≤◌, ◌^◌, ◌∙◌, Bool, false, not, ◌||◌, List, [], ◌++◌, append-nil, if◌then◌else◌, List, map, length, slice_get, Some, All, get_or, sym, ap, ap₂, subst, arith, Fits, w64, Vec, take, drop, length-drop, length-take-le}
use Rattle.std.proofs.lemmas.List.{length-map}
use Rattle.std.proofs.lemmas.Option.{slice_get_within, get_or_from_slice_get}
use Rattle.std.proofs.Math.Nat.{mul-le-mul_right}
use Rattle.vs_four.specs.Tables.{is_one}
use Rattle.vs_four.specs.Logic.{BitList, identical}
use Rattle.vs_net.specs.Network.{State}
use Rattle.vs_design.specs.Values.{count_from, read}
use Rattle.vs_plane.specs.declared.pairs.Pair.{Pair}
use Rattle.vs_plane.specs.Lanes.{slot_lane}
use Rattle.vs_program.specs.declared.compiled.Span.{Span}
use Rattle.vs_program.specs.Compiled.{span_bits}
use Rattle.vs_engine.specs.Lanes.{differ_below, state}
use Rattle.vs_vcd.specs.Values.{value_line}
use Rattle.vs_vcd.specs.Shared.{at_places}
use Rattle.vs_vcd.specs.Texts.{changed_from, value_lines}
use Rattle.vs_waves.specs.declared.changes.Changes.{Changes}
use Rattle.vs_waves.specs.declared.last.Last.TheInside.{Inside}
use Rattle.vs_waves.specs.Changes.{AreOf, changes_text}
use Rattle.vs_waves.specs.Rounds.{lane_values, values_in}
use Rattle.vs_waves.specs.Last.{LastPlanes, AreNumbered, last_values}
use Rattle.vs_waves.proofs.Lists.{All-at, read_here}
use Rattle.vs_waves.proofs.Spanning.{AreTaken, HasSpan, has_span, span_long, value_at, values_are, part_is, differs, same_below, neither, written}
use Rattle.vs_waves.proofs.Changing.{lines_more, places, places_end}
use Rattle.vs_waves.proofs.Picking.{lengths_at, span_at, spans_at, values_at}
use Rattle.vs_waves.proofs.Placing.{placed_in}
use Rattle.vs_waves.proofs.last.Last.take_over.Goals as goal
use Rattle.vs_waves.proofs.last.Last.take_over.Goals.{After-deref_mut, then-any, else-any}

offset_fits : (a n size : ℕ) → a ≤ n → n * size < 2 ^ 63 → Fits w64 (a * size)
offset_fits a n size h fits = let le = mul-le-mul_right size h in omega arith

-- the signal's span, which lies within the planes
span_is : (g : _) (c : After-deref_mut g) → slice_get c.self.inside.spans.items c.loop-n.n ≡ Some c.index-span.result.now
span_is g c = read_here c.loop-n.self-inside.spans.items c.self.inside.spans.items c.loop-n.n c.index-span.result.now
    (ap (λ v. v.items) c.loop-n.invariant.spans)
    (omega (arith, c.loop-n-test.true, c.len-n-end.ensures, c.self.inside.spans.ok.0))
    c.index-span.ensures

lies_within : (g : _) (c : After-deref_mut g) → c.index-span.result.now.first + c.index-span.result.now.length ≤ length c.deref_mut.result.now
lies_within g c = omega (arith, c.self.invariant.apart.within c.loop-n.n c.index-span.result.now (span_is g c), c.loop-n.invariant.taken.long, ap length c.deref_mut.ensures.value)

pub offset_bounds-deref_mut-from : goal.offset_bounds-deref_mut-from
offset_bounds-deref_mut-from g c =
    offset_fits c.index-span.result.now.first (length c.deref_mut.result.now) _ (omega (arith, lies_within g c)) c.deref_mut.type_inv.1

pub slice_bounds-planes-end : goal.slice_bounds-planes-end
slice_bounds-planes-end g c = omega (arith, lies_within g c)

-- the engine's signals that are written
picked : (g : _) (c : After-deref_mut g) → List Span
picked g c = spans_at c.self.inside.places.items c.args.engine.now.program.signals

lengths_are : (g : _) (c : After-deref_mut g) → map (λ (s : Span). s.length) c.self.inside.spans.items ≡ map (λ (s : Span). s.length) (picked g c)
unfolding picked
lengths_are g c =
    ap (λ (e : LastPlanes _). map (λ (s : Span). s.length) e.spans) c.self.view_is
    ∙ sym c.requires.lengths
    ∙ sym (ap (λ (e : LastPlanes _). at_places 0 e.places (map (λ (s : Span). s.length) c.args.engine.now.program.signals)) c.self.view_is)
    ∙ lengths_at c.self.inside.places.items c.args.engine.now.program.signals

-- the signal's place among the engine's
place_is : (g : _) (c : After-deref_mut g) → slice_get c.self.inside.places.items c.loop-n.n ≡ Some c.index-place.result.now
place_is g c = read_here c.loop-n.self-inside.places.items c.self.inside.places.items c.loop-n.n c.index-place.result.now
    (ap (λ v. v.items) c.loop-n.invariant.standing)
    (omega (arith, c.loop-n-test.true, c.len-n-end.ensures, c.self.inside.spans.ok.0, c.self.invariant.placed))
    c.index-place.ensures

place_within : (g : _) (c : After-deref_mut g) → c.index-place.result.now < length c.args.engine.now.program.signals
place_within g c = All-at (λ k. k < length c.args.engine.now.program.signals) c.self.inside.places.items c.loop-n.n c.index-place.result.now (place_is g c)
    (subst (λ (e : LastPlanes _). All (λ k. k < length c.args.engine.now.program.signals) e.places) (sym c.self.view_is) c.requires.within)

-- where it stands among those that are written
stands : (g : _) (c : After-deref_mut g) → slice_get (picked g c) c.loop-n.n ≡ slice_get c.args.engine.now.program.signals c.index-place.result.now
unfolding picked
stands g c = span_at c.self.inside.places.items c.args.engine.now.program.signals c.loop-n.n c.index-place.result.now (place_is g c) (place_within g c)

part_long : (g : _) (c : After-deref_mut g) → (s : Span) → slice_get c.args.engine.now.program.signals c.index-place.result.now ≡ Some s
    → length (take (c.index-span.result.now.first + c.index-span.result.now.length - c.index-span.result.now.first) (drop c.index-span.result.now.first c.deref_mut.result.now)) ≡ s.length
part_long g c s e =
    let from : ℕ = c.index-span.result.now.first in
    let size : ℕ = c.index-span.result.now.length in
    let cut : from + size - from ≡ size = omega arith in
    length-take-le (from + size - from) (drop from c.deref_mut.result.now) (omega (arith, lies_within g c, length-drop from c.deref_mut.result.now))
    ∙ cut
    ∙ span_long c.self.inside.spans.items (picked g c) c.loop-n.n c.index-span.result.now s (lengths_are g c) (span_is g c) (stands g c ∙ e)

pub lanes_to_write-lanes-requires-clause-old : goal.lanes_to_write-lanes-requires-clause-old
lanes_to_write-lanes-requires-clause-old g c = part_long g (goal.at.lanes_to_write-lanes-requires-clause-old g c).After-deref_mut

pub lanes_to_write-lanes-requires-clause-signal : goal.lanes_to_write-lanes-requires-clause-signal
lanes_to_write-lanes-requires-clause-signal g c = place_within g (goal.at.lanes_to_write-lanes-requires-clause-signal g c).After-deref_mut

pub copy-requires-clause-signal : goal.copy-requires-clause-signal
copy-requires-clause-signal g c = place_within g (goal.at.copy-requires-clause-signal g c).After-deref_mut

pub copy-requires-clause-room : goal.copy-requires-clause-room
copy-requires-clause-room g c = part_long g (goal.at.copy-requires-clause-room g c).After-deref_mut

pub add-requires-clause-signal : goal.add-requires-clause-signal
add-requires-clause-signal g c =
    place_within g (goal.at.add-requires-clause-signal g c).After-deref_mut

pub add-requires-clause-bits : goal.add-requires-clause-bits
add-requires-clause-bits g c = λ s e. c.copy.ensures.count ∙ part_long g (goal.at.add-requires-clause-bits g c).After-deref_mut s e

pub add-requires-clause-planes : goal.add-requires-clause-planes
add-requires-clause-planes g c = λ s k i e h l. c.copy.ensures.planes s k i e h

pub loop-n-preserved : goal.loop-n-preserved
unfolding picked
loop-n-preserved g c =
    let d = (goal.at.loop-n-preserved g c).After-deref_mut in
    let lane = g.W.Word.lane in
    let lanes : ℕ = g.W.Word.LANES in
    let holds : ℕ → State = state lane c.args.engine.now in
    let signals : List Span = picked g d in
    let spans : List Span = c.self.inside.spans.items in
    let numbers : List ℕ = c.self.inside.numbers.items in
    let signal_count : ℕ = c.self.inside.signals in
    let old : List (Pair _) = c.self.inside.planes.items in
    let planes : List (Pair _) = c.loop-n.self-inside.planes.items in
    let n : ℕ = c.loop-n.n in
    let s : Span = c.index-span.result.now in
    let size : ℕ = s.first + s.length - s.first in
    let size_is : size ≡ s.length = omega arith in
    let part : List (Pair _) = take size (drop s.first c.deref_mut.result.now) in
    let is_s : slice_get spans n ≡ Some s = span_is g d in
    let there : HasSpan signals n s.length = has_span spans signals n s (lengths_are g d) is_s in
    let t : Span = there.span in
    let is_t : slice_get c.args.engine.now.program.signals c.index-place.result.now ≡ Some t = sym (stands g d) ∙ there.is in
    let numbered : AreNumbered (length spans) signal_count numbers = c.self.invariant.numbered in
    let number : ℕ = c.index-number.result.now in
    let number_here : slice_get numbers n ≡ Some number = read_here c.loop-n.self-inside.numbers.items numbers n number
    (ap (λ v. v.items) c.loop-n.invariant.numbers)
    (omega (arith, numbered.long, slice_get_within spans n s is_s))
    c.index-number.ensures in
    let number_is : get_or numbers n 0 ≡ number = get_or_from_slice_get numbers n number 0 number_here in
    let below : number < signal_count = All-at (λ (m : ℕ). m < signal_count) numbers n number number_here numbered.below in
    let was : ℕ → List BitList = λ i. values_in (λ b. slot_lane lane old b i) spans in
    let now : ℕ → List BitList = λ i. values_in (holds i) signals in
    let part_of : (k i : ℕ) → k < s.length → slot_lane lane part k i ≡ slot_lane lane planes (s.first + k) i = λ k i h.
    part_is lane planes c.deref_mut.result.now s.first size k i c.deref_mut.ensures.value (omega arith) in
    let is_written : (i : ℕ) → i < lanes → lane c.lanes_to_write-lanes.result i ≡ (c.args.all || not (is_one (identical (get_or (was i) n []) (get_or (now i) n [])))) = λ i l.
    c.lanes_to_write-lanes.ensures t i is_t l
    ∙ ap (λ (b : Bool). c.args.all || b) (differs lane lanes holds signals spans old planes part n i s t is_s there.is there.long (λ k h. part_of k i h) c.loop-n.invariant.taken) in
    let lines : (i : ℕ) → i < lanes → value_lines numbers (now i) (places c.args.all (was i) (now i) (n + 1))
    ≡ value_lines numbers (now i) (places c.args.all (was i) (now i) n) ++ (if lane c.lanes_to_write-lanes.result i then value_line (get_or numbers n 0) (get_or (now i) n []) else []) = λ i l.
    lines_more numbers c.args.all (lane c.lanes_to_write-lanes.result i) n (was i) (now i)
    (omega (arith, slice_get_within spans n s is_s, length-map spans (λ (x : Span). read (λ b. slot_lane lane old b i) (span_bits x))))
    (omega (arith, slice_get_within signals n t there.is, length-map signals (λ (x : Span). read (holds i) (span_bits x))))
    (is_written i l) in
    elim c.if-any.branch [
      | then-any w ↦
          let long : length w.copy.new.out ≡ s.length = w.copy.ensures.count ∙ part_long g d t is_t ∙ there.long in
          let count : length c.if-any.changes.changed.items ≡ length c.loop-n.changes.changed.items + 1 = ap (λ (x : Changes _). length x.changed.items) w.changes-is ∙ w.add.ensures.count in
          record {
            spans = ap (λ (x : Inside _). x.spans) w.self-inside-is ∙ c.loop-n.invariant.spans;
            numbers = ap (λ (x : Inside _). x.numbers) w.self-inside-is ∙ c.loop-n.invariant.numbers;
            standing = ap (λ (x : Inside _). x.places) w.self-inside-is ∙ c.loop-n.invariant.standing;
            signals = ap (λ (x : Inside _). x.signals) w.self-inside-is ∙ c.loop-n.invariant.signals;
            taken = subst (λ (x : Inside _). AreTaken lane lanes holds signals spans old x.planes.items (n + 1)) (sym w.self-inside-is)
                (written lane lanes holds signals spans old planes w.copy.new.out _ (length old) n s t c.self.invariant.apart is_s there.is there.long
                (placed_in c.loop-n.self-inside.planes s.first size c.deref_mut.result.now w.copy.new.out c.deref_mut.ensures.value
                (omega (arith, lies_within g d, ap length c.deref_mut.ensures.value)) (long ∙ sym size_is))
                long
                (λ k i l h. w.copy.ensures.planes t k i is_t h)
                c.loop-n.invariant.taken);
            text = λ i l.
                ap (λ (x : Changes _). changes_text lane lanes x i) w.changes-is
                ∙ w.add.ensures.text t i is_t l
                ∙ ap₂ (λ (xs : List ℕ) (v : BitList). xs ++ (if lane c.lanes_to_write-lanes.result i then value_line number v else [])) (c.loop-n.invariant.text i l) (sym (value_at (holds i) signals n t there.is))
                ∙ ap (λ (k : ℕ). value_lines numbers (now i) (places c.args.all (was i) (now i) n) ++ (if lane c.lanes_to_write-lanes.result i then value_line k (get_or (now i) n []) else [])) (sym number_is)
                ∙ sym (lines i l);
            count = omega (arith, count, c.loop-n.invariant.count);
            room = subst (AreOf lanes signal_count) (sym w.changes-is)
                (w.add.ensures.room signal_count c.loop-n.invariant.room (omega (arith, c.loop-n.invariant.count, slice_get_within spans n s is_s, numbered.few)) below);
          }
      | else-any w ↦
          let long : length part ≡ s.length = part_long g d t is_t ∙ there.long in
          let none : (i : ℕ) → i < lanes → lane c.lanes_to_write-lanes.result i ≡ false = c.any.ensures.none w.if-any.false in
          record {
            spans = ap (λ (x : Inside _). x.spans) w.self-inside-is ∙ c.loop-n.invariant.spans;
            numbers = ap (λ (x : Inside _). x.numbers) w.self-inside-is ∙ c.loop-n.invariant.numbers;
            standing = ap (λ (x : Inside _). x.places) w.self-inside-is ∙ c.loop-n.invariant.standing;
            signals = ap (λ (x : Inside _). x.signals) w.self-inside-is ∙ c.loop-n.invariant.signals;
            taken = subst (λ (x : Inside _). AreTaken lane lanes holds signals spans old x.planes.items (n + 1)) (sym w.self-inside-is)
                (written lane lanes holds signals spans old planes part _ (length old) n s t c.self.invariant.apart is_s there.is there.long
                (placed_in c.loop-n.self-inside.planes s.first size c.deref_mut.result.now part c.deref_mut.ensures.value
                (omega (arith, lies_within g d, ap length c.deref_mut.ensures.value)) (long ∙ sym size_is))
                long
                (λ k i l h. same_below (λ j. slot_lane lane part j i) (λ j. holds i (t.first + j)) t.length k
                ((neither c.args.all (differ_below (λ j. slot_lane lane part j i) (λ j. holds i (t.first + j)) t.length) (sym (c.lanes_to_write-lanes.ensures t i is_t l) ∙ none i l)).1)
                h)
                c.loop-n.invariant.taken);
            text = λ i l.
                ap (λ (x : Changes _). changes_text lane lanes x i) w.changes-is
                ∙ c.loop-n.invariant.text i l
                ∙ sym (append-nil (value_lines numbers (now i) (places c.args.all (was i) (now i) n)))
                ∙ sym (ap (λ (b : Bool). value_lines numbers (now i) (places c.args.all (was i) (now i) n) ++ (if b then value_line (get_or numbers n 0) (get_or (now i) n []) else [])) (none i l))
                ∙ sym (lines i l);
            count = omega (arith, ap (λ (x : Changes _). length x.changed.items) w.changes-is, c.loop-n.invariant.count);
            room = subst (AreOf lanes signal_count) (sym w.changes-is) c.loop-n.invariant.room;
          }
    ]

pub returns-clause-values : goal.returns-clause-values
returns-clause-values g c = λ i l.
    let lane = g.W.Word.lane in
    let spans : List Span = c.self.inside.spans.items in
    let all : List Span = c.args.engine.now.program.signals in
    let signals : List Span = spans_at c.self.inside.places.items all in
    let now : State = λ b. slot_lane lane c.loop-n.self-inside.planes.items b i in
    let lengths : map (λ (s : Span). s.length) spans ≡ map (λ (s : Span). s.length) signals =
    ap (λ (e : LastPlanes _). map (λ (s : Span). s.length) e.spans) c.self.view_is
    ∙ sym c.requires.lengths
    ∙ sym (ap (λ (e : LastPlanes _). at_places 0 e.places (map (λ (s : Span). s.length) all)) c.self.view_is)
    ∙ lengths_at c.self.inside.places.items all in
    ap (λ (v : Vec Span _). values_in now v.items) c.loop-n.invariant.spans
    ∙ values_are now (state lane c.args.engine.now i) spans signals lengths
    (λ m s t is_s is_t k h. c.loop-n.invariant.taken.taken m i k s t (omega (arith, slice_get_within spans m s is_s, c.loop-n-test.false, c.len-n-end.ensures, c.self.inside.spans.ok.0)) is_s is_t l h)
    ∙ sym (values_at (state lane c.args.engine.now i) c.self.inside.places.items all)
    ∙ ap (λ (e : LastPlanes _). at_places [] e.places (lane_values lane c.args.engine.now i)) c.self.view_is

pub returns-clause-text : goal.returns-clause-text
returns-clause-text g c = λ i l.
    let lane = g.W.Word.lane in
    let spans : List Span = c.self.inside.spans.items in
    let places_in : List ℕ = c.self.inside.places.items in
    let all : List Span = c.args.engine.now.program.signals in
    let signals : List Span = spans_at places_in all in
    let was : List BitList = values_in (λ b. slot_lane lane c.self.inside.planes.items b i) spans in
    let now : List BitList = values_in (state lane c.args.engine.now i) signals in
    let n : ℕ = c.loop-n.n in
    let end : length spans ≤ n = omega (arith, c.loop-n-test.false, c.len-n-end.ensures, c.self.inside.spans.ok.0) in
    let lengths : map (λ (s : Span). s.length) spans ≡ map (λ (s : Span). s.length) signals =
    ap (λ (e : LastPlanes _). map (λ (s : Span). s.length) e.spans) c.self.view_is
    ∙ sym c.requires.lengths
    ∙ sym (ap (λ (e : LastPlanes _). at_places 0 e.places (map (λ (s : Span). s.length) all)) c.self.view_is)
    ∙ lengths_at places_in all in
    let long : length signals ≡ length spans = sym (length-map signals (λ (s : Span). s.length)) ∙ sym (ap length lengths) ∙ length-map spans (λ (s : Span). s.length) in
    let count : n ≡ length spans = omega (arith, c.loop-n.auto.n-end, c.len-n-end.ensures, c.self.inside.spans.ok.0, end) in
    c.loop-n.invariant.text i l
    ∙ ap (value_lines c.self.inside.numbers.items now) (places_end c.args.all was now n (length spans) count
    (omega (arith, length-map spans (λ (x : Span). read (λ b. slot_lane lane c.self.inside.planes.items b i) (span_bits x)), end))
    (omega (arith, long, length-map signals (λ (x : Span). read (state lane c.args.engine.now i) (span_bits x)), end)))
    ∙ sym (ap (λ (vs : List BitList). value_lines c.self.inside.numbers.items vs (if c.args.all then count_from 0 (length spans) else changed_from 0 was vs)) (values_at (state lane c.args.engine.now i) places_in all))
    ∙ ap (λ (e : LastPlanes _). value_lines e.numbers (at_places [] e.places (lane_values lane c.args.engine.now i)) (if c.args.all then count_from 0 (length e.spans) else changed_from 0 (last_values lane e i) (at_places [] e.places (lane_values lane c.args.engine.now i)))) c.self.view_is
