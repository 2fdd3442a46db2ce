use Rattle.std.proofs.Common.{sym, ◌∙◌, subst, refl, arith}
use Rattle.vs_program.specs.Phases.{calls_of_runs}
use Rattle.vs_program.specs.Compiled.{IsProgramOf}
use Rattle.vs_assemble.proofs.Finished.{bits_below, finished_by}
use Rattle.vs_assemble.proofs.assembling.finish.Goals as goal

pub padded-requires : goal.padded-requires
padded-requires g c =
    let below = bits_below (g.T.Processes.design c.args.lowering.now) (g.T.Lowering.layout c.args.lowering.now) c.requires.layout c.args.frame.initial.items c.requires.frame.initial_is in
    omega (arith, below, c.max-count.ensures, c.from.ensures, c.first_temp.ensures)

pub of-requires-clause-in_range : goal.of-requires-clause-in_range
of-requires-clause-in_range g c =
    (finished_by c.program_law.ensures.made c.program_law.ensures.in_range (g.T.Processes.design c.args.lowering.now) c.args.clocks.now c.requires.accepted c.args.order.now c.requires.order (g.T.Lowering.layout c.args.lowering.now) c.requires.layout c.args.plan.now.settling.items c.args.plan.now.blocks.items c.args.plan.now.registers.items c.args.plan.now.falling.items c.requires.plan c.args.lowered c.requires.lowered c.args.phases c.requires.phases
    c.max-count.result c.slots.result c.from.result c.max-count.ensures (c.from.ensures ∙ c.first_temp.ensures) c.slots.ensures.enough c.slots.ensures.least c.args.frame.initial.items
    (record { bits = c.args.frame.bits; clocks = c.args.frame.clocks.items; inputs = c.args.frame.inputs.items; nets = c.args.frame.nets.items; initial = c.in_ok-initial.initial.items; signals = c.args.frame.signals.items; first = calls_of_runs c.args.lowered.program c.args.phases.first.items; fall = calls_of_runs c.args.lowered.program c.args.phases.fall.items; next = calls_of_runs c.args.lowered.program c.args.phases.next.items; rise = calls_of_runs c.args.lowered.program c.args.phases.rise.items })
    c.requires.frame c.in_ok-initial.ensures refl refl refl refl).0

pub returns : goal.returns
returns g c =
    subst (IsProgramOf (g.T.Processes.design c.args.lowering.now) c.args.clocks.now) (sym c.of.ensures)
    (finished_by c.program_law.ensures.made c.program_law.ensures.in_range (g.T.Processes.design c.args.lowering.now) c.args.clocks.now c.requires.accepted c.args.order.now c.requires.order (g.T.Lowering.layout c.args.lowering.now) c.requires.layout c.args.plan.now.settling.items c.args.plan.now.blocks.items c.args.plan.now.registers.items c.args.plan.now.falling.items c.requires.plan c.args.lowered c.requires.lowered c.args.phases c.requires.phases
    c.max-count.result c.slots.result c.from.result c.max-count.ensures (c.from.ensures ∙ c.first_temp.ensures) c.slots.ensures.enough c.slots.ensures.least c.args.frame.initial.items
    (record { bits = c.args.frame.bits; clocks = c.args.frame.clocks.items; inputs = c.args.frame.inputs.items; nets = c.args.frame.nets.items; initial = c.in_ok-initial.initial.items; signals = c.args.frame.signals.items; first = calls_of_runs c.args.lowered.program c.args.phases.first.items; fall = calls_of_runs c.args.lowered.program c.args.phases.fall.items; next = calls_of_runs c.args.lowered.program c.args.phases.next.items; rise = calls_of_runs c.args.lowered.program c.args.phases.rise.items })
    c.requires.frame c.in_ok-initial.ensures refl refl refl refl).1
