use Rattle.std.proofs.Common.{◌≡◌, Bool, not, ◌&&◌, ◌||◌, Some, slice_get, take, sym, ap, ap₂, ◌∙◌, arith}
use Rattle.std.proofs.lemmas.Option.{slice_get_read}
use Rattle.vs_design.specs.Values.{read}
use Rattle.vs_plane.specs.Lanes.{pair_lane}
use Rattle.vs_program.specs.Compiled.{span_bits}
use Rattle.vs_engine.specs.Lanes.{state}
use Rattle.vs_misses.specs.Missed.{are_met}
use Rattle.vs_misses.specs.Rows.{digits_in, digit_of}
use Rattle.vs_misses.proofs.Meets.{are_met_more, are_met_all}
use Rattle.vs_misses.proofs.Packs.{digit_at, length_digits, unmet_more}
use Rattle.vs_misses.proofs.Finds.{read_at, length_read}
use Rattle.vs_misses.proofs.comparing.unmet.Goals as goal

pub loop-n-preserved : goal.loop-n-preserved
loop-n-preserved g c = λ i h.
    let lane = g.W.Word.lane in
    let n = c.loop-n.n in
    let w = c.index-wanted-n.result in
    let f = c.index-free-n.result in
    let digits = digits_in lane c.args.wanted.now c.args.free.now i in
    let s = state lane c.args.engine.now i in
    let bits = read s (span_bits c.args.span) in
    let met = are_met (take n digits) (take n bits) in
    let within : slice_get c.args.wanted.now n ≡ Some w = slice_get_read c.args.wanted.now c.args.span.length n w (sym c.requires.wanted) (omega arith) c.index-wanted-n.is in
    let beside : slice_get c.args.free.now n ≡ Some f = slice_get_read c.args.free.now c.args.span.length n f (sym c.requires.free) (omega arith) c.index-free-n.is in
    c.or-lanes.ensures i h
    ∙ ap₂ (λ (a b : Bool). a || b) (c.loop-n.invariant i h)
    (c.and.ensures i h ∙ ap₂ (λ (a b : Bool). a && b) (c.differ-other.ensures i h) (c.not-cared.ensures i h ∙ ap not (c.one.ensures.lanes i h)))
    ∙ unmet_more met (pair_lane lane w i) (pair_lane lane f i) (pair_lane lane c.pair.result i)
    ∙ ap not (sym (are_met_more digits bits n (digit_of (pair_lane lane w i) (pair_lane lane f i)) (pair_lane lane c.pair.result i)
    (digit_at lane c.args.wanted.now c.args.free.now i n w f within beside)
    (read_at s c.args.span n (omega arith) ∙ ap Some (sym (c.pair.ensures i)))))

pub returns : goal.returns
returns g c = λ i h.
    let lane = g.W.Word.lane in
    let s = state lane c.args.engine.now i in
    let all : c.loop-n.n ≡ c.args.span.length = omega arith in
    c.loop-n.invariant i h
    ∙ ap not (are_met_all (digits_in lane c.args.wanted.now c.args.free.now i) (read s (span_bits c.args.span)) c.loop-n.n
    (length_digits lane c.args.wanted.now c.args.free.now i c.args.span.length c.requires.wanted c.requires.free ∙ sym all)
    (length_read s c.args.span ∙ sym all))
