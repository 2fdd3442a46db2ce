use Rattle.std.proofs.Common.{◌≡◌, ℕ, true, List, [], length, get_or, sym, ap, ap₂, ◌∙◌, subst}
use Rattle.vs_net.specs.Network.{is_written}
use Rattle.vs_flat.specs.DesignOf.{design_of}
use Rattle.vs_events.specs.declared.choice.Step.TheVariants as S
use Rattle.vs_events.specs.declared.listener.Listener.{Listener}
use Rattle.vs_events.specs.Held.{Events, after_run}
use Rattle.vs_events.specs.Wired.{AreBelow}
use Rattle.vs_writes.specs.Held.{state_of}
use Rattle.vs_queue.proofs.Acting.{step_below, is_running, past_idle}
use Rattle.vs_queue.proofs.Executed.{hear_below, on_ok}
use Rattle.vs_queue.proofs.machine.Machine.run_keeper.Goals as goal

no_write : (b : ℕ) → is_written [] b ≡ true → ⊥
unfolding is_written
no_write b h = cc

pub run-requires-clause-there : goal.run-requires-clause-there
run-requires-clause-there c = step_below (design_of c.args.self.now.typed.now) c.args.self.now.clocks.now.bits c.args.events.now c.requires.running.sound c.requires.possible.0 (S.Run c.args.p) c.requires.possible.1

pub run-requires-clause-inside : goal.run-requires-clause-inside
run-requires-clause-inside c = λ b w. absurd (no_write b w)

pub run-requires-clause-below : goal.run-requires-clause-below
run-requires-clause-below c =
    let a = c.args.self.now.typed.now in
    let k = c.args.self.now.clocks.now in
    let e = c.args.events.now in
    subst (λ (t : List (List Listener)). (j : ℕ) → AreBelow (length e.assigns) (get_or t j [])) (sym c.requires.machine.wiring_is) (hear_below (design_of a) k c.requires.machine.accepted e c.requires.running c.listeners_law.ensures)

pub returns : goal.returns
returns c =
    let d = design_of c.args.self.now.typed.now in
    let k = c.args.self.now.clocks.now.bits in
    let e = c.args.events.now in
    let w = c.args.self.now.wiring.now in
    let idle = past_idle d k c.args.p (state_of e.values) c.requires.past (is_running d k e c.requires.running.sound c.args.p c.requires.possible.0 c.requires.possible.1) in
    record {
      events = on_ok c.run.result c.run.ensures (λ h. h ∙ ap (λ us. after_run e w c.args.p [] us) c.new.ensures.items ∙ sym (ap₂ (λ ws us. after_run e w c.args.p ws us) idle.0 idle.1));
      values = on_ok c.run.result c.run.ensures (λ h. ap (λ (x : Events). x.values) h);
    }
