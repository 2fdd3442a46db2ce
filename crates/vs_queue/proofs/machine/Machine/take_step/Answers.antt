use Rattle.vs_flat.specs.DesignOf.{design_of}
use Rattle.vs_queue.proofs.Taken.{open_rank, on_both, step_taken}
use Rattle.vs_queue.proofs.machine.Machine.take_step.Goals as goal

pub step-requires-clause-possible : goal.step-requires-clause-possible
step-requires-clause-possible c = open_rank c.args.events.now c.args.step c.requires.possible

pub returns : goal.returns
returns c = on_both c.step.result c.step.ensures.events c.step.ensures.shadow (λ is same.
    step_taken c.running_law.ensures.steps (design_of c.args.self.now.typed.now) c.args.self.now.clocks.now c.requires.machine.accepted c.args.events.now c.step.new.events c.args.self.now.wiring.now c.args.shadow.now c.step.new.shadow
    c.requires.machine.wiring_is c.requires.copied c.args.step c.requires.possible is same c.step.auto.shadow)
