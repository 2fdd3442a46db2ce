use Rattle.std.proofs.Common.{◌||◌, length, sym, ap, ◌∙◌, arith}
use Rattle.vs_design.specs.Designs.{bit_count}
use Rattle.vs_design.specs.Footprints.{contains}
use Rattle.vs_flat.specs.Arena.{Arena}
use Rattle.vs_flat.specs.Arena as A
use Rattle.vs_flat.specs.DesignOf.{design_of}
use Rattle.vs_queue.specs.First.{flag_at}
use Rattle.vs_queue.proofs.Alone.{footprint_below, footprint_same, none_written, written_more, written_all}
use Rattle.vs_queue.proofs.starts.written_flags.Goals as goal

pub loop-p-init : goal.loop-p-init
loop-p-init c = none_written (design_of c.args.typed.now).processes c.in_ok-flags.flags.items (bit_count (design_of c.args.typed.now)) c.count_bits.result (c.in_ok-flags.ensures.items_if_clones_equal (λ y e. e)) (c.count_bits.ensures ∙ ap (λ (z : Arena). A.bit_count z.signals) c.flat-flat.ensures.same ∙ sym (c.trees_law.ensures.counts c.args.typed.now).bits)

pub writes-requires : goal.writes-requires
writes-requires c =
    let a = c.args.typed.now in
    let l = c.loop-p-test.true in
    let m = c.process_count-p-end.ensures.count in
    let n = ap (λ (z : Arena). length z.processes) c.flat-flat.ensures.same in
    let k = (c.trees_law.ensures.counts a).processes in
    let f = ap length c.requires in
    let g = c.footprint_law.ensures.counts (design_of a) in
    omega (arith, l, m, n, k, f, g)

pub flag_bits-requires : goal.flag_bits-requires
flag_bits-requires c = λ b h.
    let a = c.args.typed.now in
    let d = design_of a in
    let l = c.loop-p-test.true in
    let m = c.process_count-p-end.ensures.count in
    let n = ap (λ (z : Arena). length z.processes) c.flat-flat.ensures.same in
    let k = (c.trees_law.ensures.counts a).processes in
    let lawful = c.lawful_law.ensures.design a c.flat-flat.ensures.lawful in
    let below = footprint_below c.footprint_law.ensures.bits d lawful c.args.footprints.now c.requires c.loop-p.p (omega (arith, l, m, n, k)) b (ap (λ bs. contains bs b) (sym c.writes.ensures) ∙ h) in
    let long = c.loop-p.invariant.long in
    omega (arith, below, long)

pub loop-p-preserved : goal.loop-p-preserved
loop-p-preserved c =
    let a = c.args.typed.now in
    let d = design_of a in
    let p = c.loop-p.p in
    let l = c.loop-p-test.true in
    let m = c.process_count-p-end.ensures.count in
    let n = ap (λ (z : Arena). length z.processes) c.flat-flat.ensures.same in
    let k = (c.trees_law.ensures.counts a).processes in
    let lawful = c.lawful_law.ensures.design a c.flat-flat.ensures.lawful in
    written_more d.processes c.loop-p.flags.items c.flag_bits.new.flags.items (bit_count d) p (omega (arith, l, m, n, k)) c.flag_bits.ensures.count
    (λ x at b. c.flag_bits.ensures.flags b ∙ ap (λ bs. flag_at c.loop-p.flags.items b || contains bs b) c.writes.ensures ∙ ap (λ e. flag_at c.loop-p.flags.items b || e) (footprint_same c.footprint_law.ensures.bits d lawful c.args.footprints.now c.requires p x at b)) c.loop-p.invariant

pub returns : goal.returns
returns c =
    let a = c.args.typed.now in
    let l = c.loop-p-test.false in
    let m = c.process_count-p-end.ensures.count in
    let n = ap (λ (z : Arena). length z.processes) c.flat-flat.ensures.same in
    let k = (c.trees_law.ensures.counts a).processes in
    record { count = c.loop-p.invariant.long; flags = written_all (design_of a).processes c.loop-p.flags.items (bit_count (design_of a)) c.loop-p.p (omega (arith, l, m, n, k)) c.loop-p.invariant }
