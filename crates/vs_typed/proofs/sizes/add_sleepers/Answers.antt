use Rattle.std.proofs.Common.{◌+◌, false, if◌then◌else◌, length, slice_index_or, refl, ap, ◌∙◌, subst, arith}
use Rattle.vs_design.specs.Sizes.{sleeper_weight}
use Rattle.vs_design.specs.Sleepers.{is_sleeping}
use Rattle.vs_flat.specs.Lawful.{IsLawful}
use Rattle.vs_flat.specs.DesignOf.{design_of}
use Rattle.vs_reads.specs.Footprint.{waits_at, writes_at}
use Rattle.vs_typed.specs.Weights.{capped}
use Rattle.vs_typed.proofs.Flags.{flag_is}
use Rattle.vs_typed.proofs.SizeSteps.{sum_step, sleeper_is}
use Rattle.vs_typed.proofs.sizes.add_sleepers.Goals as goal

pub loop-p-preserved : goal.loop-p-preserved
loop-p-preserved c =
    let d = design_of c.args.shapes.now in
    let lawful = subst IsLawful c.flat.ensures.same c.flat.ensures.lawful in
    let p = c.loop-p.p in
    let asleep = slice_index_or c.args.sleeping.now p false in
    sum_step (sleeper_weight d) d.processes p c.args.total c.loop-p.sum c.add_sleeper-sum.result (omega (arith, c.loop-p-test.true, c.count-p-end.ensures, ap length c.requires.footprints, c.footprint_law.ensures.counts d)) c.loop-p.invariant
    (λ x at. c.add_sleeper-sum.ensures ∙ ap (λ fs. capped (c.loop-p.sum + (if asleep then (length (waits_at fs p) + 1 + length (writes_at fs p)) else 0))) c.requires.footprints
    ∙ ap (λ m. capped (c.loop-p.sum + m)) (sleeper_is c.footprint_law.ensures.lists c.footprint_law.ensures.bits d lawful.design p x at asleep (flag_is (is_sleeping d) d.processes c.args.sleeping.now p x asleep false c.requires.sleeping refl at)))
