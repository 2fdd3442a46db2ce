use Rattle.std.proofs.Common.{ℕ, List, [], length, get_or, sym, ap, ap₂, ◌∙◌, subst, arith}
use Rattle.vs_net.specs.Network.{Write, is_written, write_all}
use Rattle.vs_flat.specs.DesignOf.{design_of}
use Rattle.vs_events.specs.declared.listener.Listener.{Listener}
use Rattle.vs_events.specs.Held.{Events}
use Rattle.vs_events.specs.Wired.{AreBelow}
use Rattle.vs_writes.specs.Held.{state_of}
use Rattle.vs_queue.proofs.Executed.{inside_values, hear_below, applied_state}
use Rattle.vs_queue.proofs.machine.Machine.apply.Goals as goal

pub write_all-requires : goal.write_all-requires
write_all-requires c =
    let e = c.args.events.now in
    let inside = inside_values (design_of c.args.self.now.typed.now) c.args.self.now.clocks.now c.requires.machine.accepted e c.requires.running (get_or e.pending c.args.p []) (c.requires.running.inside.pending c.args.p) in
    λ b w. (let l = inside b (ap (λ (ws : List Write). is_written ws b) (sym c.pending_writes.ensures) ∙ w) in let m = c.requires.long in omega (arith, l, m))

pub apply-requires-clause-inside : goal.apply-requires-clause-inside
apply-requires-clause-inside c =
    let e = c.args.events.now in
    inside_values (design_of c.args.self.now.typed.now) c.args.self.now.clocks.now c.requires.machine.accepted e c.requires.running (get_or e.pending c.args.p []) (c.requires.running.inside.pending c.args.p)

pub apply-requires-clause-below : goal.apply-requires-clause-below
apply-requires-clause-below c =
    let e = c.args.events.now in
    subst (λ (t : List (List Listener)). (j : ℕ) → AreBelow (length e.assigns) (get_or t j [])) (sym c.requires.machine.wiring_is) (hear_below (design_of c.args.self.now.typed.now) c.args.self.now.clocks.now c.requires.machine.accepted e c.requires.running c.listeners_law.ensures)

pub returns-clause-shadow : goal.returns-clause-shadow
returns-clause-shadow c =
    let e = c.args.events.now in
    let inside = inside_values (design_of c.args.self.now.typed.now) c.args.self.now.clocks.now c.requires.machine.accepted e c.requires.running (get_or e.pending c.args.p []) (c.requires.running.inside.pending c.args.p) in
    c.write_all.ensures ∙ ap₂ write_all c.requires.shadow c.pending_writes.ensures ∙ sym (ap (λ (y : Events). state_of y.values) c.apply.ensures ∙ applied_state e c.args.self.now.wiring.now c.args.p inside)
