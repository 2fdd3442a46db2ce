use Rattle.std.proofs.Common.{ℕ, List, [], length, get_or, sym, ap, ap₂, ◌∙◌, subst, arith}
use Rattle.vs_net.specs.Network.{Write, Update, is_written, write_all}
use Rattle.vs_flat.specs.DesignOf.{design_of}
use Rattle.vs_events.specs.declared.listener.Listener.{Listener}
use Rattle.vs_events.specs.Held.{Events, first_update}
use Rattle.vs_events.specs.Wired.{AreBelow}
use Rattle.vs_writes.specs.Held.{state_of}
use Rattle.vs_queue.proofs.Executed.{inside_values, hear_below, first_inside, taken_state}
use Rattle.vs_queue.proofs.machine.Machine.take.Goals as goal

pub write_all-requires : goal.write_all-requires
write_all-requires c =
    let e = c.args.events.now in
    let d = design_of c.args.self.now.typed.now in
    let inside = inside_values d c.args.self.now.clocks.now c.requires.machine.accepted e c.requires.running (first_update (get_or e.active c.args.p [])) (first_inside d c.args.self.now.clocks.now c.requires.machine.accepted e c.requires.running c.args.p) in
    λ b w. (let l = inside b (ap (λ (ws : List Write). is_written ws b) (sym c.first_writes.ensures) ∙ w) in let m = c.requires.long in omega (arith, l, m))

pub take-requires-clause-inside : goal.take-requires-clause-inside
take-requires-clause-inside c =
    let e = c.args.events.now in
    let d = design_of c.args.self.now.typed.now in
    let inside = inside_values d c.args.self.now.clocks.now c.requires.machine.accepted e c.requires.running (first_update (get_or e.active c.args.p [])) (first_inside d c.args.self.now.clocks.now c.requires.machine.accepted e c.requires.running c.args.p) in
    λ u us is b w. inside b (ap (λ (vs : List Update). is_written (first_update vs) b) is ∙ w)

pub take-requires-clause-below : goal.take-requires-clause-below
take-requires-clause-below c =
    let e = c.args.events.now in
    subst (λ (t : List (List Listener)). (j : ℕ) → AreBelow (length e.assigns) (get_or t j [])) (sym c.requires.machine.wiring_is) (hear_below (design_of c.args.self.now.typed.now) c.args.self.now.clocks.now c.requires.machine.accepted e c.requires.running c.listeners_law.ensures)

pub returns-clause-shadow : goal.returns-clause-shadow
returns-clause-shadow c =
    let e = c.args.events.now in
    let d = design_of c.args.self.now.typed.now in
    let inside = inside_values d c.args.self.now.clocks.now c.requires.machine.accepted e c.requires.running (first_update (get_or e.active c.args.p [])) (first_inside d c.args.self.now.clocks.now c.requires.machine.accepted e c.requires.running c.args.p) in
    c.write_all.ensures ∙ ap₂ write_all c.requires.shadow c.first_writes.ensures ∙ sym (ap (λ (y : Events). state_of y.values) c.take.ensures ∙ taken_state e c.args.self.now.wiring.now c.args.p (get_or e.active c.args.p []) inside)
