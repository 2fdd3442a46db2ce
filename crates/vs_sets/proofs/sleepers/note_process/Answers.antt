use Rattle.std.proofs.Common.{◌∙◌, arith}
use Rattle.vs_design.specs.Sleepers.{is_sleeping}
use Rattle.vs_flat.specs.DesignOf.{design_of}
use Rattle.vs_sets.proofs.FlagSteps.{flag_more}
use Rattle.vs_sets.proofs.sleepers.note_process.Goals as goal

pub returns-clause-one_more : goal.returns-clause-one_more
returns-clause-one_more c =
    let d = design_of c.args.shapes.now in
    let counts = c.trees_law.ensures.counts c.args.shapes.now in
    c.in_ok-push.ensures.items ∙ flag_more (is_sleeping d) d.processes c.args.p c.args.flags.now.items c.in_ok-asleep.asleep (omega (arith, c.requires.there, counts.processes)) c.requires.so_far c.in_ok-asleep.ensures.sleeps
