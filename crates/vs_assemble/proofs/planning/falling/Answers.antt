use Rattle.std.proofs.Common.{◌≡◌, ◌<◌, ◌+◌, ◌++◌, length, take, sym, subst, arith}
use Rattle.vs_cone.specs.Given.{bits_of_resets}
use Rattle.vs_assemble.specs.Flags.{HasBitsOf}
use Rattle.vs_assemble.specs.Plans.{reset_bits_or}
use Rattle.vs_assemble.proofs.Planned.{resets_more}
use Rattle.vs_assemble.proofs.planning.falling.Goals as goal

pub loop-process-preserved : goal.loop-process-preserved
loop-process-preserved g c =
    let d = g.T.Processes.design c.args.lowering.now in
    let there : c.loop-process.process < length d.processes = omega (arith, c.loop-process-test.true, c.process_count-process-end.ensures) in
    let more = c.in_ok-add_reset_bits.ensures in
    subst (λ bits. HasBitsOf c.args.bits bits (c.args.inputs.now ++ bits_of_resets d c.args.clocks.now (take (c.loop-process.process + 1) d.processes))) (sym more.1)
    (resets_more d c.args.clocks.now c.loop-process.process c.args.bits c.args.inputs.now c.loop-process.falling.items more.0 there c.loop-process.invariant
    (subst (λ n. HasBitsOf n more.0 (reset_bits_or d c.args.clocks.now (Rattle.std.proofs.Common.slice_get d.processes c.loop-process.process))) (sym c.requires.bits) more.2))
