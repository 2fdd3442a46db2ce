use Rattle.std.proofs.Common.{◌<◌, length, sym, ap, ◌∙◌, subst, Some}
use Rattle.vs_design.specs.Networks.{network_of}
use Rattle.vs_flat.specs.DesignOf.{design_of}
use Rattle.vs_writes.specs.Held.{state_of}
use Rattle.vs_events.specs.Choices.{choice_of, process_of}
use Rattle.vs_events.specs.declared.choice.Step.{Step}
use Rattle.vs_events.specs.Held.{Events}
use Rattle.vs_queue.specs.Running.{stepped}
use Rattle.vs_queue.proofs.Acting.{step_below}
use Rattle.vs_queue.proofs.Executed.{evaluated_state, on_ok}
use Rattle.vs_queue.proofs.machine.Machine.step.Goals as goal

pub start-requires : goal.start-requires
start-requires c =
    subst (λ (s : Step). process_of s < length c.args.events.now.assigns) c.in-Start.is
    (step_below (design_of c.args.self.now.typed.now) c.args.self.now.clocks.now.bits c.args.events.now c.requires.running.sound c.requires.possible.0 c.args.step c.requires.possible.1)

pub evaluate-requires-clause-possible : goal.evaluate-requires-clause-possible
evaluate-requires-clause-possible c = (c.requires.possible.0, c.requires.possible.1 ∙ ap (λ (s : Step). Some (choice_of s)) c.in-Evaluate.is)

pub apply-requires-clause-there : goal.apply-requires-clause-there
apply-requires-clause-there c =
    subst (λ (s : Step). process_of s < length c.args.events.now.assigns) c.in-Apply.is
    (step_below (design_of c.args.self.now.typed.now) c.args.self.now.clocks.now.bits c.args.events.now c.requires.running.sound c.requires.possible.0 c.args.step c.requires.possible.1)

pub run-requires-clause-possible : goal.run-requires-clause-possible
run-requires-clause-possible c = (c.requires.possible.0, c.requires.possible.1 ∙ ap (λ (s : Step). Some (choice_of s)) c.in-Run.is)

pub take-requires-clause-there : goal.take-requires-clause-there
take-requires-clause-there c =
    subst (λ (s : Step). process_of s < length c.args.events.now.assigns) c.in-Take.is
    (step_below (design_of c.args.self.now.typed.now) c.args.self.now.clocks.now.bits c.args.events.now c.requires.running.sound c.requires.possible.0 c.args.step c.requires.possible.1)

pub returns-in-Start : goal.returns-in-Start
returns-in-Start c =
    let n = network_of (design_of c.args.self.now.typed.now) c.args.self.now.clocks.now.bits in
    let e = c.args.events.now in
    let same = ap (λ (s : Step). stepped n c.args.self.now.wiring.now e (choice_of s)) (sym c.in-Start.is) in
    record { events = c.start.ensures ∙ same; shadow = c.requires.shadow ∙ sym (ap (λ (y : Events). state_of y.values) c.start.ensures) }

pub returns-in-Evaluate : goal.returns-in-Evaluate
returns-in-Evaluate c =
    let n = network_of (design_of c.args.self.now.typed.now) c.args.self.now.clocks.now.bits in
    let e = c.args.events.now in
    let same = ap (λ (s : Step). stepped n c.args.self.now.wiring.now e (choice_of s)) (sym c.in-Evaluate.is) in
    record {
      events = on_ok c.evaluate.result c.evaluate.ensures (λ h. h ∙ same);
      shadow = on_ok c.evaluate.result c.evaluate.ensures (λ h. c.requires.shadow ∙ sym (ap (λ (y : Events). state_of y.values) h ∙ evaluated_state e c.in-Evaluate.p _));
    }

pub returns-in-Apply : goal.returns-in-Apply
returns-in-Apply c =
    let n = network_of (design_of c.args.self.now.typed.now) c.args.self.now.clocks.now.bits in
    let e = c.args.events.now in
    let same = ap (λ (s : Step). stepped n c.args.self.now.wiring.now e (choice_of s)) (sym c.in-Apply.is) in
    record { events = c.apply.ensures.events ∙ same; shadow = c.apply.ensures.shadow }

pub returns-in-Run : goal.returns-in-Run
returns-in-Run c =
    let n = network_of (design_of c.args.self.now.typed.now) c.args.self.now.clocks.now.bits in
    let e = c.args.events.now in
    let same = ap (λ (s : Step). stepped n c.args.self.now.wiring.now e (choice_of s)) (sym c.in-Run.is) in
    record { events = on_ok c.run.result c.run.ensures.events (λ h. h ∙ same); shadow = c.run.ensures.shadow }

pub returns-in-Take : goal.returns-in-Take
returns-in-Take c =
    let n = network_of (design_of c.args.self.now.typed.now) c.args.self.now.clocks.now.bits in
    let e = c.args.events.now in
    let same = ap (λ (s : Step). stepped n c.args.self.now.wiring.now e (choice_of s)) (sym c.in-Take.is) in
    record { events = c.take.ensures.events ∙ same; shadow = c.take.ensures.shadow }
