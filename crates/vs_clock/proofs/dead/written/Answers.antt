use Rattle.std.proofs.Common.{Bool, false, ◌||◌, get_or, length, sym, ap, ◌∙◌, arith}
use Rattle.vs_design.specs.Designs.{bit_count}
use Rattle.vs_design.specs.Footprints.{contains}
use Rattle.vs_flat.specs.DesignOf.{design_of}
use Rattle.vs_clock.proofs.Marking.{writes_below, writes_same, none_written, written_more, written_all}
use Rattle.vs_clock.proofs.dead.written.Goals as goal

pub loop-p-init : goal.loop-p-init
loop-p-init c =
    let d = design_of c.args.flat.now in
    none_written d.processes c.in_ok-marks.marks.items (bit_count d) c.count_bits.result (c.in_ok-marks.ensures.items_if_clones_equal (λ y e. e)) (c.count_bits.ensures ∙ sym (c.trees_law.ensures.counts c.args.flat.now).bits)

pub writes-requires : goal.writes-requires
writes-requires c =
    let l = c.loop-p-test.true in
    let m = c.process_count-p-end.ensures.count in
    let k = (c.trees_law.ensures.counts c.args.flat.now).processes in
    let f = ap length c.requires.footprints in
    let g = c.footprint_law.ensures.counts (design_of c.args.flat.now) in
    omega (arith, l, m, k, f, g)

pub mark_all-requires : goal.mark_all-requires
mark_all-requires c = λ b h.
    let d = design_of c.args.flat.now in
    let l = c.loop-p-test.true in
    let m = c.process_count-p-end.ensures.count in
    let k = (c.trees_law.ensures.counts c.args.flat.now).processes in
    let below = writes_below c.footprint_law.ensures.bits d c.requires.lawful.design c.args.footprints.now c.requires.footprints c.loop-p.p (omega (arith, l, m, k)) b (ap (λ bs. contains bs b) (sym c.writes.ensures) ∙ h) in
    let long = c.loop-p.invariant.long in
    omega (arith, below, long)

pub loop-p-preserved : goal.loop-p-preserved
loop-p-preserved c =
    let d = design_of c.args.flat.now in
    let p = c.loop-p.p in
    let l = c.loop-p-test.true in
    let m = c.process_count-p-end.ensures.count in
    let k = (c.trees_law.ensures.counts c.args.flat.now).processes in
    written_more d.processes c.loop-p.marks.items c.mark_all.new.marks.items (bit_count d) p (omega (arith, l, m, k)) c.mark_all.ensures.count
    (λ x at b. c.mark_all.ensures.marks b ∙ ap (λ bs. get_or c.loop-p.marks.items b false || contains bs b) c.writes.ensures ∙ ap (λ (e : Bool). get_or c.loop-p.marks.items b false || e) (writes_same c.footprint_law.ensures.bits d c.requires.lawful.design c.args.footprints.now c.requires.footprints p x at b)) c.loop-p.invariant

pub returns : goal.returns
returns c =
    let l = c.loop-p-test.false in
    let m = c.process_count-p-end.ensures.count in
    let k = (c.trees_law.ensures.counts c.args.flat.now).processes in
    let d = design_of c.args.flat.now in
    written_all d.processes c.loop-p.marks.items (bit_count d) c.loop-p.p (omega (arith, l, m, k)) c.loop-p.invariant
