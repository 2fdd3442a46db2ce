use Rattle.std.proofs.Common.{length, refl, ap, ◌∙◌, arith}
use Rattle.std.specs.Prelude.{option_map}
use Rattle.vs_design.specs.Designs.{top_inputs}
use Rattle.vs_flat.specs.Arena.{Arena}
use Rattle.vs_flat.specs.Arena as A
use Rattle.vs_flat.specs.DesignOf.{design_of}
use Rattle.vs_queue.proofs.Executed.{count_is}
use Rattle.vs_queue.proofs.Inputs.{few_inputs}
use Rattle.vs_queue.proofs.Driving.{inputs_count, none_driven, all_driven}
use Rattle.vs_queue.proofs.machine.Machine.drive_inputs.Goals as goal

pub loop-i-init : goal.loop-i-init
loop-i-init c = record {
  so_far = λ slot h. none_driven (design_of c.args.self.now.typed.now) c.args.self.now.clocks.now.bits (option_map (λ v. v.now) c.args.vector) c.args.events.now slot h;
  held = refl;
}

pub overflow_cast-number : goal.overflow_cast-number
overflow_cast-number c =
    let a = c.args.self.now.typed.now in
    let l = c.loop-i-test.true in
    let m = ap length (c.top_inputs-count.ensures ∙ ap A.top_inputs c.flat.ensures.same) in
    let n = inputs_count c.trees_law.ensures.inputs a in
    let f = few_inputs (design_of a) c.requires.machine.accepted.accepted.lawful in
    omega (arith, l, m, n, f)

pub drive_input-requires-clause-there : goal.drive_input-requires-clause-there
drive_input-requires-clause-there c =
    let a = c.args.self.now.typed.now in
    let l = c.loop-i-test.true in
    let m = ap length (c.top_inputs-count.ensures ∙ ap A.top_inputs c.flat.ensures.same) in
    let n = inputs_count c.trees_law.ensures.inputs a in
    omega (arith, l, m, n)

pub drive_input-requires-clause-held : goal.drive_input-requires-clause-held
drive_input-requires-clause-held c =
    let h = c.loop-i.invariant.held in
    let s = c.requires.running.sound.count in
    let k = count_is (design_of c.args.self.now.typed.now) c.args.self.now.clocks.now c.requires.machine.accepted in
    omega (arith, h, s, k)

pub drive_input-requires-clause-left : goal.drive_input-requires-clause-left
drive_input-requires-clause-left c = (c.requires.slot.0, (c.loop-i.invariant.so_far c.requires.slot.0 c.requires.slot.1).left)

pub loop-i-preserved : goal.loop-i-preserved
loop-i-preserved c = record {
  so_far = λ slot h. c.in_ok-taken.ensures.driven c.args.events.now slot (c.loop-i.invariant.so_far slot h);
  held = c.in_ok-taken.ensures.held ∙ c.loop-i.invariant.held;
}

pub returns-clause-held : goal.returns-clause-held
returns-clause-held c = c.loop-i.invariant.held

pub returns-clause-driven : goal.returns-clause-driven
returns-clause-driven c = λ slot h.
    let a = c.args.self.now.typed.now in
    let l = c.loop-i-test.false in
    let m = ap length (c.top_inputs-count.ensures ∙ ap A.top_inputs c.flat.ensures.same) in
    let n = inputs_count c.trees_law.ensures.inputs a in
    all_driven c.args.self.now.clocks.now.bits (option_map (λ v. v.now) c.args.vector) (top_inputs (design_of a)) (length (design_of a).processes) c.args.events.now c.loop-i.events c.loop-i.i c.loop-i.taken slot (omega (arith, l, m, n)) (c.loop-i.invariant.so_far slot h)
