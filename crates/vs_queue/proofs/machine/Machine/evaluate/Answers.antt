use Rattle.std.proofs.Common.{◌≡◌, ◌<◌, ◌≤◌, List, true, length, sym, ap, ◌∙◌, subst, arith}
use Rattle.std.specs.List.{list_all}
use Rattle.vs_net.specs.Queue.{to_write}
use Rattle.vs_net.specs.Network.{Write}
use Rattle.vs_design.specs.Designs.{bit_count}
use Rattle.vs_design.specs.Fits.{fits_process}
use Rattle.vs_flat.specs.Arena.{Arena}
use Rattle.vs_flat.specs.DesignOf.{design_of}
use Rattle.vs_events.specs.Held.{after_evaluate}
use Rattle.vs_writes.specs.Held.{state_of}
use Rattle.vs_queue.specs.Spare.{value_count}
use Rattle.vs_queue.proofs.Acting.{evaluates}
use Rattle.vs_queue.proofs.Stepwise.{AreInside}
use Rattle.vs_queue.proofs.Executed.{fit, own, here, made_in, inside_values, told_update}
use Rattle.vs_queue.proofs.machine.Machine.evaluate.Goals as goal

pub assigned-requires-clause-there : goal.assigned-requires-clause-there
assigned-requires-clause-there c =
    let a = c.args.self.now.typed.now in
    let k = c.args.self.now.clocks.now in
    let e = c.args.events.now in
    let x = evaluates (design_of a) k.bits e c.requires.running.sound c.args.p c.requires.possible.0 c.requires.possible.1 in
    let l = here (design_of a) k c.requires.machine.accepted e c.requires.running c.args.p true x in
    let n = (c.trees_law.ensures.counts a).processes in
    subst (λ (z : Arena). c.args.p < length z.processes) (sym c.shapes.ensures) (omega (arith, l, n))

pub assigned-requires-clause-fits : goal.assigned-requires-clause-fits
assigned-requires-clause-fits c =
    let a = c.args.self.now.typed.now in
    subst (λ (z : Arena). list_all fits_process (design_of z).processes ≡ true) (sym c.shapes.ensures) (fit (design_of a) c.args.self.now.clocks.now c.requires.machine.accepted)

pub assigned-requires-clause-values : goal.assigned-requires-clause-values
assigned-requires-clause-values c =
    let long = ap length c.values.ensures ∙ c.requires.running.inside.values in
    subst (λ (z : Arena). bit_count (design_of z) ≤ length c.values.result.now) (sym c.shapes.ensures) (omega (arith, long))

pub evaluate-requires-clause-there : goal.evaluate-requires-clause-there
evaluate-requires-clause-there c =
    let a = c.args.self.now.typed.now in
    let k = c.args.self.now.clocks.now in
    let e = c.args.events.now in
    own (design_of a) k c.requires.machine.accepted e c.requires.running c.args.p true (evaluates (design_of a) k.bits e c.requires.running.sound c.args.p c.requires.possible.0 c.requires.possible.1)

pub evaluate-requires-clause-inside : goal.evaluate-requires-clause-inside
evaluate-requires-clause-inside c =
    let a = c.args.self.now.typed.now in
    let k = c.args.self.now.clocks.now in
    let e = c.args.events.now in
    let b = c.requires.machine.accepted in
    let x = evaluates (design_of a) k.bits e c.requires.running.sound c.args.p c.requires.possible.0 c.requires.possible.1 in
    let is = told_update a c.shapes.result.now c.shapes.ensures c.values.result.now e.values c.values.ensures c.args.p c.in_ok-update.update c.in_ok-update.ensures k.bits x in
    inside_values (design_of a) k b e c.requires.running c.in_ok-update.update (subst (AreInside (value_count (design_of a) k.bits)) (sym is) (made_in (design_of a) k b c.footprint_law.ensures.bits c.lawful_law.ensures.lawful c.args.p (state_of e.values)))

pub returns : goal.returns
returns c =
    let a = c.args.self.now.typed.now in
    let k = c.args.self.now.clocks.now in
    let e = c.args.events.now in
    let x = evaluates (design_of a) k.bits e c.requires.running.sound c.args.p c.requires.possible.0 c.requires.possible.1 in
    c.evaluate.ensures ∙ ap (λ (ws : List Write). after_evaluate e c.args.p (to_write (state_of e.values) ws)) (told_update a c.shapes.result.now c.shapes.ensures c.values.result.now e.values c.values.ensures c.args.p c.in_ok-update.update c.in_ok-update.ensures k.bits x)
