use Rattle.std.proofs.Common.{◌≡◌, ℕ, ◌+◌, ◌<◌, ◌≤◌, List, length, Some, ◌∙◌, sym, ap, subst, get_or, arith, slice_get}
use Rattle.std.proofs.lemmas.Option.{get_or_from_slice_get, slice_get-get_or}
use Rattle.vs_plane.specs.Lanes.{slot_lane}
use Rattle.vs_program.specs.declared.compiled.Span.{Span}
use Rattle.vs_engine.specs.Lanes.{Running, lane_slots, state}
use Rattle.vs_engine.proofs.Slots.{signal_bit, span_fits}
use Rattle.vs_engine.proofs.engine.Engine.copy.Goals as goal

pub copy_planes-requires-clause-inside : goal.copy_planes-requires-clause-inside
copy_planes-requires-clause-inside g c =
    let none : Span = record { first = 0; length = 0 } in
    let spans : List Span = c.self.inside.compiled.signals in
    let s : Span = get_or spans c.args.signal none in
    let P : Running _ → Type 0 = λ e. c.args.signal < length e.program.signals in
    let within : c.args.signal < length spans = subst P (sym c.self.view_is) c.requires.signal in
    let Q : Running _ → Type 0 = λ e. (t : Span) → slice_get e.program.signals c.args.signal ≡ Some t → length c.args.out.now ≡ t.length in
    let is : slice_get spans c.args.signal ≡ Some s = slice_get-get_or spans c.args.signal none within in
    let long : length c.args.out.now ≡ s.length = subst Q (sym c.self.view_is) c.requires.room s is in
    let fits = span_fits c.self.inside.compiled.bits spans c.args.signal s c.self.invariant.in_range.signals is in
    let room : 4 + s.first + length c.args.out.now ≤ length c.self.inside.file = omega (arith, long, fits.inside, c.self.invariant.in_range.bits, c.self.invariant.slots) in
    let told : 4 + (get_or c.signals.result.now c.args.signal none).first + length c.args.out.now ≤ length c.self.inside.file =
    subst (λ (ts : List Span). 4 + (get_or ts c.args.signal none).first + length c.args.out.now ≤ length c.self.inside.file) (sym c.signals.ensures) room in
    omega (arith, told, c.home.ensures)

pub returns-clause-planes : goal.returns-clause-planes
returns-clause-planes g c = λ s k i.
    let P : Running _ → Type 0 = λ e. ((t : Span) → slice_get e.program.signals c.args.signal ≡ Some t → length c.args.out.now ≡ t.length) → slice_get e.program.signals c.args.signal ≡ Some s → k < s.length
    → slot_lane g.W.Word.lane c.copy_planes.new.out k i ≡ state g.W.Word.lane e i (s.first + k) in
    subst P c.self.view_is (λ room e l.
    c.copy_planes.ensures.planes k i (let long : length c.args.out.now ≡ s.length = room s e in omega arith)
    ∙ ap (λ (z : ℕ). slot_lane g.W.Word.lane c.self.inside.file (z + k) i) c.home.ensures
    ∙ ap (λ (x : Span). slot_lane g.W.Word.lane c.self.inside.file (4 + x.first + k) i)
    (get_or_from_slice_get c.signals.result.now c.args.signal s (record { first = 0; length = 0 }) (ap (λ (spans : List Span). slice_get spans c.args.signal) c.signals.ensures ∙ e))
    ∙ signal_bit c.self.inside.compiled.bits c.self.inside.compiled.clocks c.self.inside.level (lane_slots g.W.Word.lane c.self.inside.file i) c.self.inside.compiled.signals c.args.signal s k c.self.invariant.in_range.signals e l)
    c.requires.room
