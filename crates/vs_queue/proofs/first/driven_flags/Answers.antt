use Rattle.std.proofs.Common.{◌≡◌, ◌+◌, ◌||◌, List, Bool, length, sym, ap, ◌∙◌, subst, arith, Some}
use Rattle.std.specs.Prelude.{slice_get}
use Rattle.vs_design.specs.Designs.{bit_count}
use Rattle.vs_design.specs.Footprints.{contains}
use Rattle.vs_flat.specs.Arena.{Arena}
use Rattle.vs_flat.specs.Arena as A
use Rattle.vs_flat.specs.DesignOf.{design_of}
use Rattle.vs_queue.specs.First.{flag_at}
use Rattle.vs_queue.proofs.Flags.{AreDriven, none_driven, all_driven}
use Rattle.vs_queue.proofs.Signals.{writes_inside, assign_next, block_next}
use Rattle.vs_queue.proofs.first.driven_flags.Goals as goal
use Rattle.vs_queue.proofs.first.driven_flags.Goals.{then-is_assign, else-is_assign}

pub loop-p-init : goal.loop-p-init
loop-p-init c = none_driven (design_of c.args.typed.now).processes c.in_ok-flags.flags.items (bit_count (design_of c.args.typed.now)) c.count_bits.result (c.in_ok-flags.ensures.items_if_clones_equal (λ y e. e)) (c.count_bits.ensures ∙ ap (λ (z : Arena). A.bit_count z.signals) c.flat-flat.ensures.same ∙ sym (c.trees_law.ensures.counts c.args.typed.now).bits)

pub writes-requires : goal.writes-requires
writes-requires c =
    let a = c.args.typed.now in
    let l = c.loop-p-test.true in
    let m = c.process_count-p-end.ensures.count in
    let n = ap (λ (z : Arena). length z.processes) c.flat-flat.ensures.same in
    let k = (c.trees_law.ensures.counts a).processes in
    let f = ap length c.requires in
    let g = c.footprint_law.ensures.counts (design_of a) in
    omega (arith, l, m, n, k, f, g)

pub flag_bits-requires : goal.flag_bits-requires
flag_bits-requires c = λ b h.
    let a = c.args.typed.now in
    let at = subst (λ (z : Arena). slice_get z.processes c.loop-p.p ≡ Some c.process.result.now) c.flat-flat.ensures.same c.process.ensures in
    let l = c.lawful_law.ensures.design a c.flat-flat.ensures.lawful in
    writes_inside c.trees_law.ensures.processes c.footprint_law.ensures.bits a l c.args.footprints.now c.requires c.loop-p.p c.process.result.now at (length c.loop-p.flags.items) c.loop-p.invariant.long b (ap (λ bs. contains bs b) (sym c.writes.ensures) ∙ h)

pub loop-p-preserved : goal.loop-p-preserved
loop-p-preserved c =
    let a = c.args.typed.now in
    let p = c.loop-p.p in
    let q = c.process.result.now in
    let at = subst (λ (z : Arena). slice_get z.processes p ≡ Some q) c.flat-flat.ensures.same c.process.ensures in
    let l = c.lawful_law.ensures.design a c.flat-flat.ensures.lawful in
    let count = bit_count (design_of a) in
    elim c.if-is_assign.branch [
      | then-is_assign w ↦ subst (λ (fs : List Bool). AreDriven (design_of a).processes fs count (p + 1)) (cc w.flags-is)
          (assign_next c.trees_law.ensures.processes c.footprint_law.ensures.bits a l c.args.footprints.now c.requires p q at (sym c.is_assign.ensures ∙ w.if-is_assign.true) c.loop-p.flags.items w.flag_bits.new.flags.items count w.flag_bits.ensures.count
          (λ b. w.flag_bits.ensures.flags b ∙ ap (λ bs. flag_at c.loop-p.flags.items b || contains bs b) w.writes.ensures) c.loop-p.invariant)
      | else-is_assign w ↦ subst (λ (fs : List Bool). AreDriven (design_of a).processes fs count (p + 1)) (cc w.flags-is)
          (block_next c.trees_law.ensures.processes c.footprint_law.ensures.bits a l c.args.footprints.now c.requires p q at (sym c.is_assign.ensures ∙ w.if-is_assign.false) c.loop-p.flags.items count c.loop-p.invariant)
    ]

pub returns : goal.returns
returns c =
    let a = c.args.typed.now in
    let l = c.loop-p-test.false in
    let m = c.process_count-p-end.ensures.count in
    let n = ap (λ (z : Arena). length z.processes) c.flat-flat.ensures.same in
    let k = (c.trees_law.ensures.counts a).processes in
    record { count = c.loop-p.invariant.long; flags = all_driven (design_of a).processes c.loop-p.flags.items (bit_count (design_of a)) c.loop-p.p (omega (arith, l, m, n, k)) c.loop-p.invariant }
